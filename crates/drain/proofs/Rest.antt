-- "When no more can be accepted": nobody waits.
use Rattle.std.specs.Prelude.{◌≡◌, ◌≢◌, false, ◌&&◌, List, [], ◌∷◌, ℕ, zero, suc, ◌+◌, ◌≤◌, ◌<◌, ltb}
use Rattle.std.proofs.Math.Path.{refl}
use Rattle.std.proofs.Common.{sym, ◌∙◌, ap, subst, arith, ltb-false}
use Rattle.std.proofs.Math.Logic.{⊎_elim}
use Rattle.std.proofs.Math.Bool.{true}
use mathlib.Core.List.Memᴰ
use Rattle.std.proofs.Math.Dec.{eqb}
use Rattle.base.specs.Choice.{split}
use Rattle.base.specs.Tests.{clash}
use Rattle.base.specs.Sums.{one, sum, sum-at, same?, below?}
use Rattle.base.specs.Lists.{Mem, total}
use Rattle.base.specs.Folds.{folds}
use Rattle.std.specs.Prelude.{Some}
use Rattle.modes.specs.Codes.{U, W}
use Rattle.modes.proofs.Laws.{none-agrees}
use Rattle.room.specs.declared.Room.{Room}
use Rattle.room.specs.declared.Entry.{Entry}
use Rattle.room.specs.Limits.{room_limit}
use Rattle.room.specs.Record.{entry_at}
use Rattle.room.specs.Owned.{owned, has_no_entries}
use Rattle.room.proofs.Owning.{no-entries-of, owned-none}
use Rattle.room.proofs.Lenders.{lender?, nobody-lends}
use Rattle.table.specs.declared.Table.{Table}
use Rattle.table.specs.declared.Queued.{Queued}
use Rattle.table.specs.Tables.{room_at, queue_of}
use Rattle.table.specs.Formed.{due, names}
use Rattle.rules.specs.Rules.{upgrade_waits}
use Rattle.facts.specs.Rooms.{RoomFacts}
use Rattle.facts.specs.Due.{due-wanted}
use Rattle.facts.specs.Moments.{QueuedFacts}
use Rattle.facts.specs.Tokens.{token-somewhere}
use Rattle.ledger.specs.Loans.{debt}
use Rattle.ledger.proofs.Debts.{debt-here, debt-none}
use Rattle.owning.specs.Clauses.{Blocked}
use Rattle.owning.proofs.Blocked.{blocked-not, blocked-empty}
use Rattle.safe.specs.Invariant.{Invariant}
use Rattle.safe.specs.Reached.{Reached}
use Rattle.safe.specs.Step.{Safe}
use Rattle.safe.proofs.Always.{reached-safe}
use Rattle.drain.specs.Drains.{Resting}
use Rattle.drain.proofs.Quiet.{Quiet, quiet-or-moves}

-- a room that owns nothing does not block the head of a queue
unblocked : (n : ℕ) (rooms : ℕ → Room) (r : Room) (queue : List Queued) → ((q : Queued) → Mem q queue → QueuedFacts n rooms q)
    → owned r ≡ 0 → Blocked r queue → ⊥
unblocked n rooms r [] facts none b = blocked-empty r b
unblocked n rooms r (q ∷ rest) facts none b =
    blocked-not r q rest (rw none (none-agrees q.mode (omega (arith, (facts q (Memᴰ.head refl)).code)))) b

module _ (n : ℕ) (rooms : ℕ → Room) (queue : List Queued) (i : Invariant n rooms queue []) (limit : n ≤ room_limit)
    (waits : (c : ℕ) → c < n → (rooms c).held ≢ 0 → (rooms c).wanted ≢ 0) where
  abbrev rank : ℕ → ℕ
  rank = i.clauses.tree.rank

  -- LEDGER with nothing under way: an entry is what the other's record says that it owes
  entry-debt : (p c : ℕ) → p < n → c < n → p ≢ c → entry_at (rooms p) c ≡ debt (rooms c) p
  unfolding folds
  entry-debt p c = i.clauses.ledger p c

  -- who has an entry: a room without the token that ranks higher and owns something
  record Borrower (p c : ℕ) : Type 0 where
    low : c < n
    without : (rooms c).token ≡ false
    higher : rank p < rank c
    some : owned (rooms c) ≢ 0

  borrower : (p c : ℕ) → p < n → c < room_limit → (entry_at (rooms p) c).mode ≢ 0 → Borrower p c
  borrower p c lp inside entry =
      record { low = low; without = without; higher = higher; some = λ e. entry (owes ∙ i.exact c low without ∙ e) }
    where
      low : c < n
      low = ⊎_elim (λ h. h) (λ h. absurd (entry (((i.sound.room p lp).entry c inside).outside h))) (below? c n)

      loan : entry_at (rooms p) c ≡ debt (rooms c) p
      loan = entry-debt p c lp low (λ e. entry (((i.sound.room p lp).entry c inside).own (sym e)))

      lender : (rooms c).lender ≡ Some p
      lender = ⊎_elim (λ e. e) (λ e. absurd (entry (ap (λ (e : Entry). e.mode) (loan ∙ debt-none (rooms c) p e)))) (lender? (rooms c).lender p)

      owes : (entry_at (rooms p) c).mode ≡ (rooms c).credit
      owes = ap (λ (e : Entry). e.mode) (loan ∙ debt-here (rooms c) p lender)

      without : (rooms c).token ≡ false
      without = split (rooms c).token (λ e. absurd (nobody-lends ((i.sound.room c low).token-free e) lender)) (λ e. e)

      higher : rank p < rank c
      higher = rw lender at (i.clauses.tree.lender c low (λ e. nobody-lends e lender) (λ w m. absurd (Memᴰ.not-nil m)))

  -- with no such room there is no entry
  no-entries : (p : ℕ) → p < n → ((c : ℕ) → c < n → (rooms c).token ≡ false → rank p < rank c → owned (rooms c) ≡ 0) → has_no_entries (rooms p) ≡ true
  no-entries p lp none =
      no-entries-of (rooms p) λ c h.
      ⊎_elim (λ e. e) (λ e. let b = borrower p c lp h e in absurd (b.some (none c b.low b.without b.higher)))
      (same? (entry_at (rooms p) c).mode 0)

  -- only an upgrade is held while it waits, and that with the token
  free : (c : ℕ) → c < n → (rooms c).token ≡ false → (rooms c).held ≡ 0
  free c low without =
      ⊎_elim (λ e. e) (λ e. clash (facts.U-token (facts.upgrade e (waits c low e)).0) without) (same? (rooms c).held 0)
    where
      facts : RoomFacts n c (rooms c)
      facts = i.sound.room c low

  -- a room without the token owns nothing, since no rank is above all: by induction on what is left to the sum of the ranks
  idle-within : (k c : ℕ) → c < n → (rooms c).token ≡ false → sum n rank ≤ rank c + k → owned (rooms c) ≡ 0
  idle-within zero c low without near =
      owned-none (rooms c) (free c low without) (no-entries c low (λ d h w up. absurd (omega (arith, sum-at n rank d h))))
  idle-within (suc k) c low without near =
      owned-none (rooms c) (free c low without) (no-entries c low (λ d h w up. idle-within k d h w (omega arith)))

  idle : (c : ℕ) → c < n → (rooms c).token ≡ false → owned (rooms c) ≡ 0
  idle c low without = idle-within (sum n rank) c low without (omega arith)

  -- the room with the token
  module _ (r : ℕ) (low : r < n) (with : (rooms r).token ≡ true) where
    alone : has_no_entries (rooms r) ≡ true
    alone = no-entries r low (λ c h w up. idle c h w)

    no-upgrade : upgrade_waits (rooms r) ≡ false
    no-upgrade = split (upgrade_waits (rooms r)) (λ e. clash alone (i.served.upgrade r low with e)) (λ e. e)

    root-free : (rooms r).held ≡ 0
    unfolding upgrade_waits
    root-free = ⊎_elim (λ e. e) (λ e. clash (upgrades ((i.sound.room r low).upgrade e (waits r low e))) no-upgrade) (same? (rooms r).held 0)
      where
        upgrades : ((rooms r).held ≡ U) × ((rooms r).wanted ≡ W) → (eqb (rooms r).held U && eqb (rooms r).wanted W) ≡ true
        upgrades (h, w) = rw (h, w) refl

    -- nobody is in the queue, since none agrees with every code
    queue-empty : queue ≡ []
    queue-empty =
        ⊎_elim (λ e. e) (λ b. absurd (unblocked n rooms (rooms r) queue i.sound.queued (owned-none (rooms r) root-free alone) b))
        (i.served.head r low with no-upgrade)

  -- some room has the token
  holder : (r : ℕ) × (r < n) × ((rooms r).token ≡ true)
  holder =
      ⊎_elim (λ f. f) (λ f. absurd (Memᴰ.not-nil f.1)) (token-somewhere n rooms [] (omega (arith, i.sound.token)))

  nobody-holds : (c : ℕ) → c < n → (rooms c).held ≡ 0
  nobody-holds c low = split (rooms c).token (root-free c low) (free c low)

  -- by the names nobody waits
  unnamed : (c : ℕ) → names queue [] c ≡ 0
  unfolding names total
  unnamed c = rw (queue-empty holder.0 holder.1 holder.2) refl

  not-due : (c : ℕ) → c < n → due (rooms c) ≡ 0
  not-due c low =
      split (ltb 0 (due (rooms c)))
      (λ e. absurd (omega (arith, ap one e, unnamed c, i.sound.named c low)))
      (λ e. omega (arith, ltb-false 0 (due (rooms c)) e))

  nobody-waits : (c : ℕ) → c < n → (rooms c).wanted ≡ 0
  nobody-waits c low = sym (due-wanted (rooms c) (nobody-holds c low)) ∙ not-due c low

-- "When no more can be accepted" nobody waits.
pub resting : (n : ℕ) (t : Table) → Reached n t → Resting t → (c : ℕ) → c < n → (room_at t c).wanted ≡ 0
resting n t r rest = ⊎_elim quiet (λ m. absurd (rest m.0 m.1 m.2)) (quiet-or-moves n t r)
  where
    safe : Safe n t
    safe = reached-safe n t r

    quiet : Quiet t → (c : ℕ) → c < n → (room_at t c).wanted ≡ 0
    quiet q c low =
        nobody-waits t.n (room_at t) (queue_of t) (subst (Invariant t.n (room_at t) (queue_of t)) q.still safe.invariant)
        (omega (arith, safe.rooms, r.most)) q.waits c (omega (arith, safe.rooms))
