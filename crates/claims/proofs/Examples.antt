-- The table of examples holds, and no false answer does, by one computation.
use mathlib.Core.Path.{◌≡◌, refl}
use mathlib.Core.Bool.{true, not, ◌&&◌}
use Rattle.basis.specs.Choice.{first_broken}
use Rattle.basis.specs.Lists.{all, any, same, last, sum, padded, over}
use Rattle.basis.specs.Numbers.{every, first, count, select, up_to}
use Rattle.sets.specs.Set.{set_of}
use Rattle.seniority.specs.Seniority.{chain, senior, held_or_senior, held_or_junior, reach}
use Rattle.text.specs.Kind.{named_in, follows}
use Rattle.text.specs.Number.{value_from, is_number, numeral, digits_before, decimal}
use Rattle.text.specs.Parts.{split, join, lines_of, text_of}
use Rattle.words.specs.Word.{letter, holding, comparison, parsed, written, word_number, numbered}
use Rattle.policy.specs.Checks.{width_fits, direct_fits, entry_fits, conflict_fits, pair_fits, in_range, direct_rises, entry_rises, conflict_rises, rule_rises, pair_rises, rises, balanced, balances, extended}
use Rattle.policy.specs.Limits.{values, actions, stored_widths, own_widths, tuple_bits}
use Rattle.policy.specs.Line.{allowed, count_fits, form_fits, numbers_of, words_of}
use Rattle.policy.specs.Policy.{blank, total, start, attribute_of, set_of_number, formula_in, named}
use Rattle.policy.specs.Read.{checks_of, checks_for, refusal_of, after, ending, read_lines, read_text}
use Rattle.policy.specs.Text.{lines_of as linesOf-text, later_fields, line_text, text_of as textOf-text}
use Rattle.policy.specs.Valid.{same_side, same_register, same_conflicts, same_rule, same_rules, same_pairs, same_value, valid}
use Rattle.policy.specs.Value.{side_value, register, conflicts_value, no_rule, rule_value, rules_value, pairs_value, value_of, side_of, entries_of, conflicts_of, rule_of, rules_of, pairs_of, policy_of}
use Rattle.formula.specs.Truth.{step, run, truth, formula_true, pair_true, grants}
use Rattle.formula.specs.Decide.{decide}
use Rattle.tuples.specs.Tuples.{tuples, decide_by_tuples}
use Rattle.labels.specs.Compile.{like_users, like_objects, NU, NO, entry_of, entry, user_result, object_result, table_result}
use Rattle.labels.specs.Labelling.{users_alike, objects_alike}
use Rattle.labels.specs.Labels.{lowest_like, leads, label_count, label, leader}
use Rattle.report.specs.Report.{blocks, report}
use Rattle.board.specs.Board.{other_widths, entry_at, store, fresh, board_fits, fits, reads_past_end, grants_by_labels, look_up, board_reply, board_checks, board_after, board_step}
use Rattle.board.specs.Machine.{empty, put, reach_of, object_set, together, too_many, checks, entry_after, reply, step as step-machine, run as run-machine, machine}
use Rattle.claims.specs.Isolation.{calls_where, answers_where}
use Rattle.claims.specs.Examples.{table, false_answers, holds}

pub examples_hold : (all holds table && not (any holds false_answers)) ≡ true
unfolding other_widths numbered word_number own_widths stored_widths tuple_bits first_broken all any same last sum padded over every first count select up_to set_of chain senior held_or_senior held_or_junior reach values actions named_in follows value_from is_number numeral digits_before decimal split join lines_of text_of letter holding comparison parsed written width_fits direct_fits entry_fits conflict_fits pair_fits in_range direct_rises entry_rises conflict_rises rule_rises pair_rises rises balanced balances extended allowed count_fits form_fits numbers_of words_of blank total start attribute_of set_of_number formula_in named checks_of checks_for refusal_of after ending read_lines read_text linesOf-text later_fields line_text textOf-text same_side same_register same_conflicts same_rule same_rules same_pairs same_value valid side_value register conflicts_value no_rule rule_value rules_value pairs_value value_of side_of entries_of conflicts_of rule_of rules_of pairs_of policy_of step run truth formula_true pair_true grants decide tuples decide_by_tuples like_users like_objects NU NO entry_of entry user_result object_result table_result users_alike objects_alike lowest_like leads label_count label leader blocks report entry_at store fresh board_fits fits reads_past_end grants_by_labels look_up board_reply board_checks board_after board_step empty put reach_of object_set together too_many checks entry_after reply step-machine run-machine machine calls_where answers_where
examples_hold = refl
