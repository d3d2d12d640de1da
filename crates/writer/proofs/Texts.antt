-- The text of a value is the texts of its lists, one after the other: each line is its word, its fields and a line
-- feed.
use Prim.Native.Nat.{ℕ}
use mathlib.Core.Path.{◌≡◌, refl, sym, ◌∙◌}
use mathlib.Core.List.{List, [], ◌∷◌, ◌++◌, map, map-map, append_assoc}
use Rattle.seniority.specs.declared.Direct.{Direct}
use Rattle.text.specs.Number.{decimal}
use Rattle.text.specs.Parts.{comma, join, text_of as linesText}
use Rattle.text.specs.Kind.{word_of, layout_of}
use Rattle.text.specs.declared.kind.Kind.{Kind}
use Rattle.text.specs.declared.kind.Kind.TheVariants.{Policy as PolicyKind, Uattr, Oattr, Usen, Osen, User, Object, Conflict as ConflictKind, Rule as RuleKind, Pair as PairKind, End}
use Rattle.text.specs.declared.kind.Layout.TheVariants.{Bare, One, Two, Three}
use Rattle.words.specs.Word.{written, numbered}
use Rattle.policy.specs.Line.{Line, no_numbers, one_number, two_numbers, three_numbers, plain, rule_line}
use Rattle.policy.specs.Policy.{Rule}
use Rattle.policy.specs.Text.{lines_of, later_fields, line_text, text_of}
use Rattle.policy.specs.Value.{side_of, entries_of, conflicts_of, rule_of, rules_of, pairs_of, policy_of}
use Rattle.policy.specs.declared.value.PolicyValue.{PolicyValue}
use Rattle.policy.specs.declared.value.Entry.{Entry}
use Rattle.policy.specs.declared.value.Conflict.{Conflict}
use Rattle.policy.specs.declared.value.Pair.{Pair}
use Rattle.policy.specs.declared.value.RuleValue.{RuleValue}
use Rattle.writer.specs.Inner.Put.{each, feed, field, number_fields, word_fields, bare_line, one_line, numbers_line, formula_line, direct_line, entry_line, conflict_line, pair_line}
use Rattle.writer.specs.Inner.Put as Put
use Rattle.writer.specs.Inner.Whole.{sides_text, lists_text}

-- ---- a line by its layout

each-map : {A B : Type 0} (f : B → List ℕ) (g : A → B) (xs : List A) → each f (map g xs) ≡ each (λ x. f (g x)) xs
unfolding each
each-map f g [] = refl
each-map f g (x ∷ xs) = rw (each-map f g xs)

-- fields, each with a comma before it, and a line feed
pub fields-end : (f : List ℕ) (fs : List (List ℕ)) → join comma (f ∷ fs) ++ feed ≡ f ++ (each field fs ++ feed)
unfolding join each field
fields-end f [] = refl
fields-end f (g ∷ fs) =
    append_assoc f (comma ∷ join comma (g ∷ fs)) feed ∙ rw (fields-end g fs, append_assoc g (each field fs) feed)

-- a line of numbers
pub numbers-end : (word : List ℕ) (ns : List ℕ) → join comma (word ∷ map decimal ns) ++ feed ≡ numbers_line word ns
unfolding numbers_line
numbers-end word ns =
    fields-end word (map decimal ns) ∙ rw (each-map field decimal ns) (sym (append_assoc word (number_fields ns) feed))

module _ (k : Kind) where
  bare : layout_of k ≡ Bare → line_text (plain k no_numbers) ++ feed ≡ bare_line (word_of k)
  unfolding line_text later_fields bare_line each
  bare e = rw (e, fields-end (word_of k) [])

  one : (a : ℕ) → layout_of k ≡ One → line_text (plain k (one_number a)) ++ feed ≡ one_line (word_of k) a
  unfolding line_text later_fields
  one a e = rw e (numbers-end (word_of k) (a ∷ []))

  two : (a b : ℕ) → layout_of k ≡ Two → line_text (plain k (two_numbers a b)) ++ feed ≡ numbers_line (word_of k) (a ∷ b ∷ [])
  unfolding line_text later_fields
  two a b e = rw e (numbers-end (word_of k) (a ∷ b ∷ []))

  three : (a b d : ℕ) → layout_of k ≡ Three → line_text (plain k (three_numbers a b d)) ++ feed ≡ numbers_line (word_of k) (a ∷ b ∷ d ∷ [])
  unfolding line_text later_fields
  three a b d e = rw e (numbers-end (word_of k) (a ∷ b ∷ d ∷ []))

rule : (r : RuleValue) → line_text (rule_line (rule_of r).action (rule_of r).words) ++ feed ≡ Put.rule_line (word_of RuleKind) r
unfolding rule_of line_text later_fields formula_line each
rule r =
    rw (
      fields-end (word_of RuleKind) (decimal r.action ∷ map written (rule_of r).words),
      each-map field written (map numbered (Put.numbers_of r)),
      each-map (λ w. field (written w)) numbered (Put.numbers_of r),
    )
    (simp append_assoc)

-- ---- the lines of a list

-- some lines as a text
abbrev said : List Line → List ℕ
said ls = linesText (map line_text ls)

said-next : (l : Line) (ls : List Line) → said (l ∷ ls) ≡ (line_text l ++ feed) ++ said ls
unfolding linesText
said-next l ls = sym (append_assoc (line_text l) feed (said ls))

-- the lines of a list, and others after them
said-list : {A : Type 0} (g : A → Line) (h : A → List ℕ) → ((x : A) → line_text (g x) ++ feed ≡ h x) → (xs : List A) (ls : List Line) → said (map g xs ++ ls) ≡ each h xs ++ said ls
unfolding each
said-list g h e [] ls = refl
said-list g h e (x ∷ xs) ls =
    said-next (g x) (map g xs ++ ls) ∙ rw (said-list g h e xs ls, e x) (sym (append_assoc (h x) (each h xs) (said ls)))

said-rules : (rs : List RuleValue) (ls : List Line)
    → said (map (λ (r : Rule). rule_line r.action r.words) (map rule_of rs) ++ ls) ≡ each (Put.rule_line (word_of RuleKind)) rs ++ said ls
said-rules rs ls = rw map-map (said-list (λ r. rule_line (rule_of r).action (rule_of r).words) (Put.rule_line (word_of RuleKind)) rule rs ls)

said-end : said (plain End no_numbers ∷ []) ≡ bare_line (word_of End)
unfolding linesText
said-end = bare End refl

-- ---- all lists

abbrev pub value_text : PolicyValue → List ℕ
value_text v = sides_text v ++ lists_text v

pub text-is : (v : PolicyValue) → text_of (policy_of v) ≡ value_text v
unfolding text_of lines_of policy_of side_of entries_of conflicts_of rules_of pairs_of
text-is v =
    rw (
      said-next,
      one PolicyKind v.form refl,
      said-list (λ w. plain Uattr (one_number w)) (one_line (word_of Uattr)) (λ w. one Uattr w refl),
      said-list (λ w. plain Oattr (one_number w)) (one_line (word_of Oattr)) (λ w. one Oattr w refl),
      said-list (λ (l : Direct). plain Usen (two_numbers l.senior l.junior)) (direct_line (word_of Usen)) (λ l. two Usen l.senior l.junior refl),
      said-list (λ (l : Direct). plain Osen (two_numbers l.senior l.junior)) (direct_line (word_of Osen)) (λ l. two Osen l.senior l.junior refl),
      said-list (λ (e : Entry). plain User (two_numbers e.number e.set)) (entry_line (word_of User)) (λ e. two User e.number e.set refl),
      said-list (λ (e : Entry). plain Object (two_numbers e.number e.set)) (entry_line (word_of Object)) (λ e. two Object e.number e.set refl),
      said-list (λ (x : Conflict). plain ConflictKind (two_numbers x.set x.most)) (conflict_line (word_of ConflictKind)) (λ x. two ConflictKind x.set x.most refl),
      said-rules,
      said-list (λ (x : Pair). plain PairKind (three_numbers x.action x.user x.object)) (pair_line (word_of PairKind)) (λ x. three PairKind x.action x.user x.object refl),
      said-end,
    )
    (simp append_assoc)
