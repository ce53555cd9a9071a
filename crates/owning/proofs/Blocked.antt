-- When the head of the queue conflicts with what a room owns.
use Rattle.std.specs.Prelude.{◌≡◌, refl, ◌⊎◌, true, false, ◌&&◌, List, [], ◌∷◌, ◌++◌, ℕ}
use Rattle.std.proofs.Common.{◌∙◌, ap, inl, inr}
use Rattle.base.specs.Tests.{clash}
use Rattle.modes.specs.Modes.{agrees}
use Rattle.modes.proofs.Laws.{agrees-sym}
use Rattle.room.specs.declared.Room.{Room}
use Rattle.room.specs.Owned.{owned}
use Rattle.table.specs.declared.Queued.{Queued}
use Rattle.rules.specs.Rules.{is_empty}
use Rattle.owning.specs.Clauses.{Blocked}

-- only what the room owns counts
pub blocked-same : (r s : Room) (queue : List Queued) → owned s ≡ owned r → Blocked r queue → Blocked s queue
unfolding Blocked
blocked-same r s [] e b = b
blocked-same r s (q ∷ rest) e b = ap (λ (m : ℕ). agrees m q.mode) e ∙ b

-- a head that agrees does not block
pub blocked-not : {C : Type 0} (r : Room) (q : Queued) (rest : List Queued) → agrees (owned r) q.mode ≡ true → Blocked r (q ∷ rest) → C
unfolding Blocked
blocked-not r q rest g b = clash g b

-- and an empty queue has no head
pub blocked-empty : (r : Room) → Blocked r [] → ⊥
unfolding Blocked
blocked-empty r b = b

-- whoever joins the queue leaves its head
pub blocked-join : (r : Room) (queue : List Queued) (q : Queued) → Blocked r queue → Blocked r (queue ++ (q ∷ []))
unfolding Blocked
blocked-join r [] q b = absurd (blocked-empty r b)
blocked-join r (p ∷ rest) q b = b

-- a room that has to join the queue finds its head blocked, or is blocked itself
pub blocked-ask : (r : Room) (queue : List Queued) (q : Queued) → (queue ≡ []) ⊎ Blocked r queue
    → (is_empty queue && agrees q.mode (owned r)) ≡ false → Blocked r (queue ++ (q ∷ []))
unfolding Blocked is_empty
blocked-ask r [] q h f = agrees-sym (owned r) q.mode ∙ f
blocked-ask r (p ∷ rest) q (inl e) f = absurd (full e)
  where
    full : p ∷ rest ≡ [] → ⊥
    full e = clash (ap is_empty e) refl
blocked-ask r (p ∷ rest) q (inr b) f = b
