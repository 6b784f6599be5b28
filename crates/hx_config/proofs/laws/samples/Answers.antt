use Rattle.std.proofs.Common.{refl}
use Rattle.hx_config_parts.specs.Addresses.{cut_at, server_address, bind_address}
use Rattle.hx_config_parts.specs.Lexical.{lines_of, words_of}
use Rattle.hx_config.specs.Meaning.{meaning_of, lines_read, finished, all_placed, all_served, place_from}
use Rattle.hx_config_parts.specs.Numbers.{value_from}
use Rattle.hx_config.specs.Options.{chosen_by}
use Rattle.hx_config.specs.Samples.{usual_text}
use Rattle.hx_config.specs.Statements.{line_read, said}
use Rattle.hx_config.proofs.laws.samples.Goals as goal

pub returns-clause-usual : goal.returns-clause-usual
unfolding meaning_of lines_read finished all_placed all_served place_from lines_of words_of line_read said value_from cut_at server_address bind_address chosen_by usual_text
returns-clause-usual c = refl

pub returns-clause-not_ascii : goal.returns-clause-not_ascii
unfolding meaning_of lines_read finished all_placed all_served place_from lines_of words_of line_read said value_from cut_at server_address bind_address chosen_by
returns-clause-not_ascii c = refl

pub returns-clause-unknown_word : goal.returns-clause-unknown_word
unfolding meaning_of lines_read finished all_placed all_served place_from lines_of words_of line_read said value_from cut_at server_address bind_address chosen_by
returns-clause-unknown_word c = refl

pub returns-clause-wrong_place : goal.returns-clause-wrong_place
unfolding meaning_of lines_read finished all_placed all_served place_from lines_of words_of line_read said value_from cut_at server_address bind_address chosen_by
returns-clause-wrong_place c = refl

pub returns-clause-missing_value : goal.returns-clause-missing_value
unfolding meaning_of lines_read finished all_placed all_served place_from lines_of words_of line_read said value_from cut_at server_address bind_address chosen_by
returns-clause-missing_value c = refl

pub returns-clause-bad_number : goal.returns-clause-bad_number
unfolding meaning_of lines_read finished all_placed all_served place_from lines_of words_of line_read said value_from cut_at server_address bind_address chosen_by
returns-clause-bad_number c = refl

pub returns-clause-bad_time : goal.returns-clause-bad_time
unfolding meaning_of lines_read finished all_placed all_served place_from lines_of words_of line_read said value_from cut_at server_address bind_address chosen_by
returns-clause-bad_time c = refl

pub returns-clause-bad_address : goal.returns-clause-bad_address
unfolding meaning_of lines_read finished all_placed all_served place_from lines_of words_of line_read said value_from cut_at server_address bind_address chosen_by
returns-clause-bad_address c = refl

pub returns-clause-double_name : goal.returns-clause-double_name
unfolding meaning_of lines_read finished all_placed all_served place_from lines_of words_of line_read said value_from cut_at server_address bind_address chosen_by
returns-clause-double_name c = refl

pub returns-clause-no_such_backend : goal.returns-clause-no_such_backend
unfolding meaning_of lines_read finished all_placed all_served place_from lines_of words_of line_read said value_from cut_at server_address bind_address chosen_by
returns-clause-no_such_backend c = refl

pub returns-clause-too_many : goal.returns-clause-too_many
unfolding meaning_of lines_read finished all_placed all_served place_from lines_of words_of line_read said value_from cut_at server_address bind_address chosen_by
returns-clause-too_many c = refl

pub returns-clause-no_server : goal.returns-clause-no_server
unfolding meaning_of lines_read finished all_placed all_served place_from lines_of words_of line_read said value_from cut_at server_address bind_address chosen_by
returns-clause-no_server c = refl
