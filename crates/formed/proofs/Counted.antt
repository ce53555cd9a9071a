-- An array that counts how often each room is named.
use mathlib.Core.Path.{◌≡◌}
use mathlib.Core.List.{List, map}
use Prim.Native.Nat.{ℕ, ◌+◌, ◌<◌}
use lib.ListN.{length, get_or, set, length-set}
use lib.Dec.{eqb}
use native.Mathlib.Omega.{arith}
use Rattle.std.specs.List.{range_with_len}
use Rattle.std.proofs.lemmas.Bool.Decides.{nat_tests}
use Rattle.std.proofs.lemmas.Grind.{common_steps}
use Rattle.std.proofs.lemmas.List.FromFn.{get_or-map-range_with_len, length-map-range_with_len, fill_by_all}
use Rattle.base.specs.Sums.{one}
use Rattle.base.specs.Lists.{count}
use Rattle.room.specs.Limits.{room_limit}
use Rattle.table.specs.declared.Queued.{Queued}

-- the array holds f of each room
pub record Counted (times : List ℕ) (f : ℕ → ℕ) : Type 0 where
  pub long : length times ≡ room_limit
  pub at : (c : ℕ) → c < room_limit → get_or times c 0 ≡ f c

module _ (times : List ℕ) (f g : ℕ → ℕ) (k : Counted times f) (after : List ℕ) where
  -- one more for the room `at`
  pub counted-raised : (at : ℕ) → at < room_limit
      → ((c : ℕ) → c < room_limit → g c ≡ f c + one (eqb at c)) → after ≡ set times at (get_or times at 0 + 1) → Counted after g
  counted-raised at h more e =
      rw e (record { long = simp length-set k.long; at = λ c l. grind (arith, common_steps, nat_tests, k.at c l, more c l) })

  pub counted-kept : ((c : ℕ) → c < room_limit → g c ≡ f c) → after ≡ times → Counted after g
  counted-kept same e = rw e (record { long = k.long; at = λ c l. omega (arith, k.at c l, same c l) })

-- the array is that of f
module _ (f : ℕ → ℕ) where
  pub counted-is : (times : List ℕ) → Counted times f → times ≡ map f (range_with_len 0 room_limit)
  counted-is times k = fill_by_all f times room_limit 0 k.long k.at

  pub counted-so : (times : List ℕ) → times ≡ map f (range_with_len 0 room_limit) → Counted times f
  counted-so times e =
      rw e
      (record {
        long = length-map-range_with_len f 0 room_limit;
        at = λ c l. get_or-map-range_with_len f 0 room_limit c c 0 l (omega arith);
      })

-- how many places of a queue name the room c
abbrev pub places_naming : List Queued → ℕ → ℕ
places_naming queue c = count (λ q. eqb q.room c) queue
