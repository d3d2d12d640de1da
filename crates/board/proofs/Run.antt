-- Two machines that answer each call alike, and stay related by it, answer every list alike: by induction over it.
use mathlib.Core.List.{List, [], ◌∷◌}
use mathlib.Core.Path.{◌≡◌, refl, ap₂}
use Rattle.policy.specs.Answers.{Reply}
use Rattle.board.specs.Machine.{Call, Out, Ran, run}

-- the same answer, and states that are related
pub record Alike {S T : Type 0} (R : S → T → Type 0) (o : Out S) (q : Out T) : Type 0 where
  pub reply : o.reply ≡ q.reply
  pub state : R o.state q.state

pub record RanAlike {S T : Type 0} (R : S → T → Type 0) (o : Ran S) (q : Ran T) : Type 0 where
  pub replies : o.replies ≡ q.replies
  pub state : R o.state q.state

module _ {S T : Type 0} (f : Call → S → Out S) (g : Call → T → Out T) (R : S → T → Type 0)
    (step : (c : Call) (s : S) (t : T) → R s t → Alike R (f c s) (g c t)) where
  pub run-alike : (cs : List Call) (s : S) (t : T) → R s t → RanAlike R (run f cs s) (run g cs t)
  unfolding run
  run-alike [] s t r = record { replies = refl; state = r }
  run-alike (c ∷ cs) s t r =
      let h = step c s t r in
      let k = run-alike cs (f c s).state (g c t).state h.state in
      record { replies = ap₂ (λ (x : Reply) (xs : List Reply). x ∷ xs) h.reply k.replies; state = k.state }
