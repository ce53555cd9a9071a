-- WAY holds of the fresh table: room 0 has the token, and all look toward it.
use Rattle.std.specs.Prelude.{◌≡◌, ◌≢◌, ◌⊎◌, [], ℕ, ◌≤◌, ◌<◌}
use Rattle.std.proofs.Common.{ap, inl, inr, arith}
use Rattle.base.specs.Tests.{clash}
use Rattle.base.specs.Sums.{same?}
use Rattle.room.specs.declared.Room.{Room}
use Rattle.room.specs.Limits.{room_limit}
use Rattle.table.specs.Tables.{room_at, fresh_table}
use Rattle.kept.specs.Fresh.{room-other}
use Rattle.measure.specs.Way.{Leads}
use Rattle.base.specs.Ranks.{rerooted, rerooted-here, rerooted-other}

-- room 0 is the bottom, and every other room is 1 above it
pub leads-fresh : (n : ℕ) → n ≤ room_limit → Leads n (room_at (fresh_table n)) [] (rerooted 0 (λ c. 0))
unfolding fresh_table
leads-fresh n small c h t z = go (same? c 0)
  where
    go : (c ≡ 0) ⊎ (c ≢ 0) → rerooted 0 (λ c. 0) (room_at (fresh_table n) c).toward < rerooted 0 (λ c. 0) c
    go (inl e) = clash (ap (λ (x : ℕ). (room_at (fresh_table n) x).token) e) t
    go (inr e) =
        rw (ap (λ (r : Room). r.toward) (room-other n c (omega arith) e))
        (omega (arith, rerooted-here 0 (λ c. 0), rerooted-other 0 (λ c. 0) c e))
