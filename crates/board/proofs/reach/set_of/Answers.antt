-- `board::reach::set_of` meets its contract: the first entry with the number is found.
use Rattle.std.proofs.Common.{◌≡◌, ◌∙◌, ap, eqb, take, rules}
use Rattle.std.specs.Option.{option_map}
use Rattle.std.proofs.lemmas.Iterator.{YieldsList-from_slice}
use Rattle.std.proofs.lemmas.Iterator.Search.{find_from_yields_List}
use borrow.Author.Tests.{tests}
use Rattle.policy.specs.Value.{entries_of}
use Rattle.policy.specs.declared.value.Entry.{Entry}
use Rattle.board.proofs.Chains.{set-found}
use Rattle.board.proofs.reach.set_of.Goals as goal

pub returns : goal.returns
unfolding entries_of
returns c =
    let r = c.args.register.now in
    let found = find_from_yields_List (λ (e : Entry). eqb e.number c.args.number) _ _ c.find.result c.find.ensures.ran (YieldsList-from_slice (take r.count r.entries) cc) (λ x b q k. search (rules, tests)) in
    let mapped : c.map.result ≡ option_map (λ (e : Entry). e.set) (option_map (λ y. y.now) c.find.result) = search rules in
    mapped ∙ ap (option_map (λ (e : Entry). e.set)) found ∙ set-found (take r.count r.entries) c.args.number
