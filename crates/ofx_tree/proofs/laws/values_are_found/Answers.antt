use Rattle.ofx_tree.proofs.FormLaws.{text_in_again, text_in_found, flag_in_again, flag_in_found, maybe_flag_in_again, maybe_flag_in_found, amount_in_again, amount_in_found, moment_in_again, moment_in_found, maybe_moment_in_again, maybe_moment_in_found, number_in_again, number_in_found, id_in_again, id_in_found, maybe_id_in_again, maybe_id_in_found}
use Rattle.ofx_tree.proofs.laws.values_are_found.Goals as goal

pub returns : goal.returns
returns c = record {
  texts = λ name most parent text. (text_in_again name most parent text, text_in_found name most parent text);
  flags = λ name parent flag. (flag_in_again name parent flag, flag_in_found name parent flag);
  maybe_flags = λ name parent flag. (maybe_flag_in_again name parent flag, maybe_flag_in_found name parent flag);
  amounts = λ name parent amount. (amount_in_again name parent amount, amount_in_found name parent amount);
  moments = λ name parent moment. (moment_in_again name parent moment, moment_in_found name parent moment);
  maybe_moments = λ name parent moment. (maybe_moment_in_again name parent moment, maybe_moment_in_found name parent moment);
  numbers = λ name most parent number. (number_in_again name most parent number, number_in_found name most parent number);
  ids = λ name parent id. (id_in_again name parent id, id_in_found name parent id);
  maybe_ids = λ name parent id. (maybe_id_in_again name parent id, maybe_id_in_found name parent id);
}
