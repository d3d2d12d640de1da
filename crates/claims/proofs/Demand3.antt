-- Demand 3, from the text through reading and compiling to every list of calls.
use Rattle.std.specs.Prelude.{Ok}
use Prim.Native.Nat.{ℕ, ◌≤◌, ◌<◌}
use mathlib.Core.Path.{◌≡◌, refl, ap, ◌∙◌}
use mathlib.Core.Bool.{true}
use mathlib.Core.List.{List}
use borrow.Author.Tests.{eq-eqb, le-ltb, lt-leb}
use lib.ListN.{length}
use Rattle.basis.specs.Choice.{first_broken}
use Rattle.basis.specs.Lists.{over}
use Rattle.policy.specs.Limits.{actions, object_numbers, tuple_bits}
use Rattle.policy.specs.Policy.{Policy}
use Rattle.policy.specs.Read.{Accepted, read_text}
use Rattle.policy.specs.Value.{value_of, policy_of}
use Rattle.policy.specs.Valid.{valid}
use Rattle.policy.proofs.Valid.{yielded_valid, yielded_policy}
use Rattle.policy.proofs.RoundTrip.{read-sound}
use Rattle.policy.proofs.Parts.{parts, whole}
use Rattle.policy.proofs.Lookup.{registered-bounds}
use Rattle.formula.specs.Truth.{at}
use Rattle.tuples.specs.Tuples.{tuples, list, list_buffer}
use Rattle.tuples.proofs.Tuples.{tuples-rise, listed-decides}
use Rattle.labels.specs.Compile.{Buffers, counts, compile, compile_buffers, filled}
use Rattle.labels.proofs.Compiling.{compiled-grants, compiled-users, compiled-objects, fewest}
use Rattle.board.specs.Machine.{Call, machine, run, step, empty}
use Rattle.board.proofs.Agreement.{ObjectsFit, Serves, replies-agree, sessions-agree}
use Rattle.claims.specs.Demand3.{Tuples, Enough, Compiled, Sessions, with_counts, Claim}
use Rattle.claims.proofs.Deciding.{by_policy}
use Rattle.claims.proofs.Serving.{inside, decides}

module _ (t : List ℕ) (p : Policy) (e : read_text t ≡ Accepted p) where
  ok : valid (value_of p) ≡ true
  ok = yielded_valid t p e

  back : policy_of (value_of p) ≡ p
  back = yielded_policy t p e

  -- ---- tuples

  module _ (a : ℕ) (ha : a < actions p.form) (buffer : List ℕ) (room : length (tuples p a) ≤ length buffer) where
    is-listed : list (value_of p) (tuple_bits p.form) a buffer ≡ Ok (length (tuples p a))
    unfolding list first_broken value_of
    is-listed = rw (back, ok, eq-eqb (tuple_bits p.form) (tuple_bits p.form) refl, lt-leb (actions p.form) a ha, le-ltb (length buffer) (length (tuples p a)) room)

    is-stored : list_buffer (value_of p) (tuple_bits p.form) a buffer ≡ over (tuples p a) buffer
    unfolding list_buffer first_broken value_of
    is-stored = rw (back, ok, eq-eqb (tuple_bits p.form) (tuple_bits p.form) refl, lt-leb (actions p.form) a ha, le-ltb (length buffer) (length (tuples p a)) room)

  listed : (a : ℕ) → a < actions p.form → Tuples p a
  listed a ha =
      record {
        rising = tuples-rise p a;
        listed = is-listed a ha;
        stored-are = is-stored a ha;
        decides = λ buffer room u o hu ho.
            listed-decides (value_of p) (tuple_bits p.form) a (at u o) buffer (length (tuples p a)) (is-listed a ha buffer room) ∙ by_policy t p e a ha (at u o) hu ho;
      }

  -- ---- labels

  module _ (b : Buffers) (room : Enough p b) where
    is-compiled : compile (value_of p) b ≡ Ok (counts p)
    unfolding compile first_broken value_of
    is-compiled = rw (back, ok, room.own, room.long)

    buffers-are : compile_buffers (value_of p) b ≡ filled p b
    unfolding compile_buffers first_broken value_of
    buffers-are = rw (back, ok, room.own, room.long)

    compiled-to : Compiled p b
    compiled-to =
        record {
          gives-counts = is-compiled;
          users = ap (λ (x : Buffers). x.users) buffers-are;
          objects = ap (λ (x : Buffers). x.objects) buffers-are;
          table = ap (λ (x : Buffers). x.table) buffers-are;
          alike = rw buffers-are (compiled-grants p b);
          users-used = rw buffers-are (compiled-users p b);
          objects-used = rw buffers-are (compiled-objects p b);
        }

    -- ---- sessions

    serves : Serves p (with_counts p (compile_buffers (value_of p) b))
    serves = rw buffers-are (record { widths = room.own; inside = inside p b; decides = λ a s ha hu ho. decides p b s hu ho a ha })

    machine-is : (calls : List Call) → machine t calls ≡ run (step p) calls empty
    unfolding machine
    machine-is calls = rw e

    objects-fit : ObjectsFit p
    objects-fit n s q = (registered-bounds object_numbers p.object p.objects (parts p (whole p (read-sound t p e)).lists).objects n s q).1

    sessions : (calls : List Call) → Sessions t p b calls
    sessions calls =
        record {
          answers = rw (machine-is calls) (replies-agree p _ objects-fit serves (value_of p) back ok calls);
          entries = λ k. rw (machine-is calls) (sessions-agree p _ objects-fit serves (value_of p) back ok calls k);
        }

pub demand3 : Claim
demand3 t p e =
    record {
      tuples-listed = listed t p e;
      compiled-to = compiled-to t p e;
      fewest = record { users = λ l h. (fewest p l h).0; objects = λ l h. (fewest p l h).1 };
      sessions = sessions t p e;
    }
