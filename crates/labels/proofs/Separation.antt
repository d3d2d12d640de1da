-- 'Alike' and a witness exclude each other: what separates two user sets keeps them from being alike.
use Prim.Native.Nat.{ℕ}
use mathlib.Core.Path.{◌≡◌}
use mathlib.Core.Bool.{false}
use Rattle.basis.specs.Numbers.{agree}
use Rattle.basis.proofs.Bools.{never, fails}
use Rattle.basis.proofs.Numbers.{every-at}
use Rattle.policy.specs.Policy.{Policy}
use Rattle.formula.specs.Truth.{at, grants}
use Rattle.labels.specs.Labelling.{users_alike}
use Rattle.labels.specs.Compile.{like_users}
use Rattle.labels.specs.Apart.{Separates}

pub apart-unlike : (p : Policy) (u v a o : ℕ) → Separates p u v a o → like_users p u v ≡ false
unfolding like_users users_alike
apart-unlike p u v a o s =
    fails (like_users p u v) (λ e.
    never (agree (grants p a (at u o)) (grants p a (at v o))) (every-at _ _ (every-at _ _ e o s.object) a s.action) s.differ)
