-- The changes after which a room owns no more than before: what it owns then is under what it owned.
use Rattle.std.specs.Prelude.{◌≡◌, true, ℕ, ◌≤◌, ◌<◌, length}
use Rattle.modes.specs.Codes.{none, IR}
use Rattle.modes.specs.Modes.{can_lend}
use Rattle.modes.specs.Under.{under}
use Rattle.modes.proofs.Laws.{none-under}
use Rattle.room.specs.declared.Room.{Room}
use Rattle.room.specs.Limits.{room_limit}
use Rattle.room.specs.Record.{with_modes}
use Rattle.room.specs.Owned.{owned}
use Rattle.room.specs.Rules.{lent_to, passed_to, credited, reduced}
use Rattle.owning.specs.Parts.{part}
use Rattle.owning.specs.Clauses.{Agreeing}
use Rattle.owning.proofs.Changes.{Falls, alters-falls, same-falls, modes-alters, wanted-same, credited-same, lent-alters, passed-alters, reduced-falls}
use Rattle.owning.proofs.Falls.{falls-owned, loan-owned}

-- it owns no more than before
abbrev pub Weaker : Room → Room → Type 0
Weaker r s = under (owned s) (owned r) ≡ true

module _ (r : Room) where
  -- hand back, and clear an entry
  pub hand-back-falls : (v : ℕ) → Falls r (with_modes r none v)
  hand-back-falls v = alters-falls r (with_modes r none v) room_limit none (modes-alters r none v) (none-under (part r room_limit))

  pub passed-falls : (y : ℕ) → length r.entries ≡ room_limit → y < room_limit → Falls r (passed_to r y)
  passed-falls y long near = alters-falls r (passed_to r y) y none (passed-alters r y long near) (none-under (part r y))

  module _ (a : Agreeing r) where
    pub hand-back-weaker : (v : ℕ) → Weaker r (with_modes r none v)
    hand-back-weaker v = falls-owned r (with_modes r none v) a (hand-back-falls v)

    pub want-weaker : (v : ℕ) → Weaker r (with_modes r r.held v)
    want-weaker v = falls-owned r (with_modes r r.held v) a (same-falls r (with_modes r r.held v) (wanted-same r v))

    pub credited-weaker : (m : ℕ) → Weaker r (credited r m)
    credited-weaker m = falls-owned r (credited r m) a (same-falls r (credited r m) (credited-same r m))

    module _ (y : ℕ) (long : length r.entries ≡ room_limit) (near : y < room_limit) where
      pub lent-weaker : (m : ℕ) → can_lend (owned r) m ≡ true → Weaker r (lent_to r y m)
      lent-weaker m can = loan-owned r (lent_to r y m) a y m (lent-alters r y long near m) can

      pub passed-weaker : Weaker r (passed_to r y)
      passed-weaker = falls-owned r (passed_to r y) a (passed-falls y long near)

      pub reduced-weaker : (l m : ℕ) → m ≤ IR → Weaker r (reduced r y l m)
      reduced-weaker l m weak = falls-owned r (reduced r y l m) a (reduced-falls r y long near l m weak)
