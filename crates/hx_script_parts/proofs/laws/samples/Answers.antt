use Rattle.std.proofs.Common.{refl}
use Rattle.hx_config_parts.specs.Addresses.{cut_at, server_address, bind_address}
use Rattle.hx_config_parts.specs.Lexical as config_words
use Rattle.hx_config.specs.Meaning as config
use Rattle.hx_config_parts.specs.Numbers.{value_from}
use Rattle.hx_config.specs.Options.{chosen_by}
use Rattle.hx_config.specs.Statements as config_line
use Rattle.hx_script_parts.specs.Lexical.{lines_of, behind}
use Rattle.hx_script_parts.specs.Meaning.{meaning_of, lines_read}
use Rattle.hx_script_parts.specs.Names.{front_from, server_in, server_among}
use Rattle.hx_script_parts.specs.QuotedReading.{read_from}
use Rattle.hx_script_parts.specs.Statements.{line_read, said}
use Rattle.hx_script_parts.proofs.laws.samples.Goals as goal

pub returns-clause-lines : goal.returns-clause-lines
unfolding meaning_of lines_read line_read said behind front_from server_in server_among lines_of read_from config.meaning_of config.lines_read config.finished config.all_placed config.all_served config.place_from config_line.line_read config_line.said config_words.lines_of config_words.words_of value_from cut_at server_address bind_address chosen_by
returns-clause-lines c = refl

pub returns-clause-config : goal.returns-clause-config
unfolding meaning_of lines_read line_read said behind front_from server_in server_among lines_of read_from config.meaning_of config.lines_read config.finished config.all_placed config.all_served config.place_from config_line.line_read config_line.said config_words.lines_of config_words.words_of value_from cut_at server_address bind_address chosen_by
returns-clause-config c = refl

pub returns-clause-bad_first_line : goal.returns-clause-bad_first_line
unfolding meaning_of lines_read line_read said behind front_from server_in server_among lines_of read_from config.meaning_of config.lines_read config.finished config.all_placed config.all_served config.place_from config_line.line_read config_line.said config_words.lines_of config_words.words_of value_from cut_at server_address bind_address chosen_by
returns-clause-bad_first_line c = refl

pub returns-clause-bad_line : goal.returns-clause-bad_line
unfolding meaning_of lines_read line_read said behind front_from server_in server_among lines_of read_from config.meaning_of config.lines_read config.finished config.all_placed config.all_served config.place_from config_line.line_read config_line.said config_words.lines_of config_words.words_of value_from cut_at server_address bind_address chosen_by
returns-clause-bad_line c = refl

pub returns-clause-bad_number : goal.returns-clause-bad_number
unfolding meaning_of lines_read line_read said behind front_from server_in server_among lines_of read_from config.meaning_of config.lines_read config.finished config.all_placed config.all_served config.place_from config_line.line_read config_line.said config_words.lines_of config_words.words_of value_from cut_at server_address bind_address chosen_by
returns-clause-bad_number c = refl

pub returns-clause-bad_text : goal.returns-clause-bad_text
unfolding meaning_of lines_read line_read said behind front_from server_in server_among lines_of read_from config.meaning_of config.lines_read config.finished config.all_placed config.all_served config.place_from config_line.line_read config_line.said config_words.lines_of config_words.words_of value_from cut_at server_address bind_address chosen_by
returns-clause-bad_text c = refl

pub returns-clause-no_such_frontend : goal.returns-clause-no_such_frontend
unfolding meaning_of lines_read line_read said behind front_from server_in server_among lines_of read_from config.meaning_of config.lines_read config.finished config.all_placed config.all_served config.place_from config_line.line_read config_line.said config_words.lines_of config_words.words_of value_from cut_at server_address bind_address chosen_by
returns-clause-no_such_frontend c = refl

pub returns-clause-no_such_server : goal.returns-clause-no_such_server
unfolding meaning_of lines_read line_read said behind front_from server_in server_among lines_of read_from config.meaning_of config.lines_read config.finished config.all_placed config.all_served config.place_from config_line.line_read config_line.said config_words.lines_of config_words.words_of value_from cut_at server_address bind_address chosen_by
returns-clause-no_such_server c = refl

pub returns-clause-bad_worker : goal.returns-clause-bad_worker
unfolding meaning_of lines_read line_read said behind front_from server_in server_among lines_of read_from config.meaning_of config.lines_read config.finished config.all_placed config.all_served config.place_from config_line.line_read config_line.said config_words.lines_of config_words.words_of value_from cut_at server_address bind_address chosen_by
returns-clause-bad_worker c = refl

pub returns-clause-wrong_place : goal.returns-clause-wrong_place
unfolding meaning_of lines_read line_read said behind front_from server_in server_among lines_of read_from config.meaning_of config.lines_read config.finished config.all_placed config.all_served config.place_from config_line.line_read config_line.said config_words.lines_of config_words.words_of value_from cut_at server_address bind_address chosen_by
returns-clause-wrong_place c = refl

pub returns-clause-moment_falls : goal.returns-clause-moment_falls
unfolding meaning_of lines_read line_read said behind front_from server_in server_among lines_of read_from config.meaning_of config.lines_read config.finished config.all_placed config.all_served config.place_from config_line.line_read config_line.said config_words.lines_of config_words.words_of value_from cut_at server_address bind_address chosen_by
returns-clause-moment_falls c = refl
