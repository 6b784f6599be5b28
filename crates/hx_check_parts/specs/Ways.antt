-- Private: the ranges of an exchange by the way of their bytes.
use Rattle.hx_base.specs.declared.numbers.Span.{Span}
use Rattle.hx_record.specs.declared.served.Carried.{Carried}
use Rattle.hx_check_parts.specs.Tiling.{sent_range, took_range}
use Rattle.hx_check_parts.specs.declared.exchanges.Way.{Way}
use Rattle.hx_check_parts.specs.declared.exchanges.Way.TheVariants.{Sent, Took}

-- the range that way
abbrev pub range_on : Way → Carried → Span
range_on Sent c = sent_range c
range_on Took c = took_range c
