use Rattle.hx_transcripts_parts.proofs.NumberLemmas.{number_reads}
use Rattle.hx_transcripts_parts.proofs.PieceLemmas.{who_reads, place_reads, span_reads, names_read, conn_reads}
use Rattle.hx_transcripts_parts.proofs.laws.words_read_back.Goals as goal

pub returns-clause-numbers : goal.returns-clause-numbers
returns-clause-numbers c = number_reads

pub returns-clause-sessions : goal.returns-clause-sessions
returns-clause-sessions c = who_reads

pub returns-clause-places : goal.returns-clause-places
returns-clause-places c = place_reads

pub returns-clause-ranges : goal.returns-clause-ranges
returns-clause-ranges c = span_reads

pub returns-clause-names : goal.returns-clause-names
returns-clause-names c = names_read

pub returns-clause-conns : goal.returns-clause-conns
returns-clause-conns c = conn_reads
