-- A rule as the code holds it, or what its line breaks of refusals 5 to 9.
use Rattle.std.specs.Prelude.{ℕ, Bool, cond, List, map, leb, drop, Option, None, Some, Result, Ok, Err}
use Rattle.basis.specs.Lists.{all}
use Rattle.text.specs.declared.kind.Kind.TheVariants.{Rule as RuleKind}
use Rattle.words.specs.Word.{parsed, is_word, word_in}
use Rattle.policy.specs.Answers.{number_of}
use Rattle.policy.specs.Policy.{Rule}
use Rattle.policy.specs.Line.{one_number}
use Rattle.policy.specs.Checks.{Sizes, in_range, widths_equal, balanced}
use Rattle.policy.specs.Value.{rule_value}
use Rattle.policy.specs.declared.refusal.Refusal.{Refusal}
use Rattle.policy.specs.declared.refusal.Refusal.TheVariants.{MalformedField, OutOfRange, NotRising, UnequalWidths, UnbalancedFormula}
use Rattle.policy.specs.declared.value.RuleValue.{RuleValue}

-- fields as words: refusal 5
abbrev pub are_words : List (List ℕ) → Bool
are_words fs = all (λ f. is_word (parsed f)) fs

-- the rule of an action and the fields behind it
abbrev pub rule_from : ℕ → List (List ℕ) → Rule
rule_from a fs = record { action = a; words = map (λ f. word_in (parsed f)) fs }

unfoldable pub rule_in : ℕ → List (List ℕ) → Result RuleValue Refusal
rule_in a fs = cond (are_words fs) (Ok (rule_value (rule_from a fs))) (Err MalformedField)

-- refusals 8 and 9
abbrev pub formula_tested : Sizes → Rule → Result (Unit {0}) Refusal
formula_tested s r = cond (all (widths_equal s) r.words) (cond (balanced 0 r.words) (Ok tt) (Err UnbalancedFormula)) (Err UnequalWidths)

-- refusals 6 to 9, where `least` is the least action that rises
unfoldable pub rule_tested : (least form : ℕ) → Sizes → Rule → Result (Unit {0}) Refusal
rule_tested least form s r =
    cond (in_range RuleKind form s (one_number r.action) r.words)
    (cond (leb least r.action) (formula_tested s r) (Err NotRising))
    (Err OutOfRange)

-- a value, if a test of it breaks nothing
abbrev pub tested : {A : Type 0} → Result (Unit {0}) Refusal → A → Result A Refusal
tested (Ok u) a = Ok a
tested (Err r) a = Err r

-- of a line's fields: refusal 5, and then 6 to 9
unfoldable pub admitted_rule : (least form : ℕ) → Sizes → ℕ → List (List ℕ) → Result RuleValue Refusal
admitted_rule least form s a fs =
    let r = rule_from a (drop 2 fs) in
    cond (are_words (drop 2 fs)) (tested (rule_tested least form s r) (rule_value r)) (Err MalformedField)

-- the number of what is broken
abbrev pub number_in : {A : Type 0} → Result A Refusal → Option ℕ
number_in (Ok a) = None
number_in (Err r) = Some (number_of r)
