-- SERVED holds at the end of serve, and is kept where nothing is served.
use Rattle.std.specs.Prelude.{◌≡◌, refl, ◌≢◌, ◌⊎◌, true, not, ◌&&◌, List, [], ◌∷◌, ◌++◌, ℕ, ◌≤◌, ◌<◌, eqb}
use Rattle.std.proofs.Common.{◌∙◌, ap, inl, arith, eqb-true}
use Rattle.std.proofs.Math.Logic.{inr, ⊎_elim}
use Rattle.std.proofs.Math.Bool.{false}
use Rattle.std.proofs.lemmas.Bool.{false≢true, not-true}
use mathlib.Core.List.Memᴰ
use Rattle.base.specs.Choice.{by-test, split}
use Rattle.base.specs.Tests.{and_both, and_right, clash}
use Rattle.base.specs.Sums.{same?}
use Rattle.base.specs.Lists.{Mem}
use Rattle.modes.specs.Codes.{none, U, W}
use Rattle.modes.specs.Modes.{agrees, can_lend}
use Rattle.modes.proofs.Laws.{agrees-sym, past-agrees, agrees-W}
use Rattle.room.specs.declared.Room.{Room}
use Rattle.room.specs.Record.{with_modes}
use Rattle.room.specs.Owned.{owned, has_no_entries}
use Rattle.room.proofs.Owning.{owned-held}
use Rattle.room.specs.Rules.{lent, lent_to, left, passed, passed_to}
use Rattle.table.specs.declared.Queued.{Queued}
use Rattle.rules.specs.Work.{Work, send}
use Rattle.rules.specs.Rules.{hold, lend, pass, upgrade_waits, upgraded, serve_queue, serve, is_empty}
use Rattle.facts.specs.Cases.{passed-either}
use Rattle.owning.specs.Clauses.{Blocked, UpgradeServed, HeadServed, Served}
use Rattle.owning.proofs.Changes.{same-owned, wanted-same}
use Rattle.owning.proofs.Blocked.{blocked-same, blocked-ask}

-- the end of serving, at a room that still has the token: an upgrade waits, or the queue is empty, or its head conflicts
record Ended (v : Work) : Type 0 where
  ended : v.room.token ≡ true → (upgrade_waits v.room ≡ true) ⊎ (v.queue ≡ []) ⊎ Blocked v.room v.queue

-- a waiting upgrade has an entry
record Justly (v : Work) : Type 0 where
  justly : upgrade_waits v.room ≡ true → has_no_entries v.room ≡ false

-- where no mode is wanted no upgrade waits
waits-not : (r : Room) → r.wanted ≡ none → upgrade_waits r ≡ false
unfolding upgrade_waits
waits-not r e =
    split (eqb r.held U && eqb r.wanted W)
    (λ t. absurd (omega (arith, eqb-true r.wanted W (and_right (eqb r.held U) _ t))))
    (λ t. t)

-- a pass gives the token away, and leaves held and wanted modes as they were
passed-gone : (r : Room) (y : ℕ) → (passed_to r y).token ≡ false
unfolding left
passed-gone r y = passed-either r y (λ (s : Room). s.token ≡ false) (λ e. refl) (λ e. refl)

passed-waits : (r : Room) (y : ℕ) → upgrade_waits (passed_to r y) ≡ upgrade_waits r
unfolding left upgrade_waits
passed-waits r y = passed-either r y (λ (s : Room). upgrade_waits s ≡ upgrade_waits r) (λ e. refl) (λ e. refl)

queue-ended : (queue : List Queued) (w : Work) → Ended (serve_queue w queue)
unfolding serve_queue hold lend pass send lent passed Blocked
queue-ended [] w = record { ended = λ t. inr (inl refl) }
queue-ended (q ∷ rest) w =
    by-test Ended (upgrade_waits w.room) _ _ (λ u. record { ended = λ t. inl u }) λ u.
    by-test Ended (not (agrees (owned w.room) q.mode)) _ _ (λ c. record { ended = λ t. inr (inr (not-true _ c)) }) λ c.
    by-test Ended (eqb q.room w.me) _ _ (λ e. queue-ended rest (hold w q.mode)) λ e.
    by-test Ended (can_lend (owned w.room) q.mode) _ _ (λ l. queue-ended rest (lend w q.room q.mode)) λ l.
    record { ended = λ t. clash t (passed-gone w.room q.room) }

-- serving begins no upgrade, and stops at once while one waits
queue-justly : (queue : List Queued) (w : Work) → Justly w → Justly (serve_queue w queue)
unfolding serve_queue hold lend pass send lent lent_to passed upgrade_waits
queue-justly [] w j = record { justly = j.justly }
queue-justly (q ∷ rest) w j =
    by-test Justly (upgrade_waits w.room) _ _ (λ u. record { justly = j.justly }) λ u.
    by-test Justly (not (agrees (owned w.room) q.mode)) _ _ (λ c. record { justly = j.justly }) λ c.
    by-test Justly (eqb q.room w.me) _ _
    (λ e. queue-justly rest (hold w q.mode) (record { justly = λ t. clash t (waits-not (with_modes w.room q.mode 0) refl) })) λ e.
    by-test Justly (can_lend (owned w.room) q.mode) _ _
    (λ l. queue-justly rest (lend w q.room q.mode) (record { justly = λ t. clash t u })) λ l.
    record { justly = λ t. clash t (passed-waits w.room q.room ∙ u) }

-- "a waiting upgrade with no entries becomes a held W"
upgraded-justly : (w : Work) → Justly (upgraded w)
unfolding upgraded hold
upgraded-justly w =
    by-test Justly (upgrade_waits w.room && has_no_entries w.room) (hold w W) w
    (λ e. record { justly = λ t. clash t (waits-not (with_modes w.room W 0) refl) })
    (λ e. record { justly = λ t. split (has_no_entries w.room) (λ n. clash (and_both _ _ t n) e) (λ n. n) })

module _ (n : ℕ) (new : ℕ → Room) (me : ℕ) (alone : (c : ℕ) → c < n → c ≢ me → (new c).token ≡ false) where
  -- only the room that may have the token has to be looked at
  room : (queue : List Queued) → UpgradeServed (new me) → HeadServed (new me) queue → Served n new queue
  room queue upgrade head =
      record { upgrade = λ c h. first c h (same? c me); head = λ c h. second c h (same? c me) }
    where
      first : (c : ℕ) → c < n → (c ≡ me) ⊎ (c ≢ me) → UpgradeServed (new c)
      first c h (inl e) = rw e upgrade
      first c h (inr e) = λ t. clash t (alone c h e)

      second : (c : ℕ) → c < n → (c ≡ me) ⊎ (c ≢ me) → HeadServed (new c) queue
      second c h (inl e) = rw e head
      second c h (inr e) = λ t. clash t (alone c h e)

  -- the end of serve
  pub served-serve : (w : Work) → new me ≡ (serve w).room → Served n new (serve w).queue
  unfolding serve
  served-serve w here =
      room (serve w).queue
      (λ t u. rw here ((queue-justly w.queue (upgraded w) (upgraded-justly w)).justly (rw here at u)))
      (λ t u. ⊎_elim (λ v. clash v (rw here at u)) (λ b. rw here b) ((queue-ended w.queue (upgraded w)).ended (rw here at t)))

  -- ASK with an empty queue: the mode is held
  pub served-hold : (r : Room) (h : ℕ) → new me ≡ with_modes r h none → Served n new []
  served-hold r h here = room [] (λ t u. clash (rw here at u) (waits-not (with_modes r h none) refl)) (λ t u. inl refl)

  -- UPGRADE with no entries: W is held, and no mode in the queue agrees with it
  pub served-upgrade : (r : Room) (queue : List Queued) → ((q : Queued) → Mem q queue → 1 ≤ q.mode) → new me ≡ with_modes r W none
      → Served n new queue
  unfolding Blocked
  served-upgrade r queue some here =
      room queue (λ t u. clash (rw here at u) (waits-not (with_modes r W none) refl)) (λ t u. rw here (go queue some))
    where
      strong : (m : ℕ) → 1 ≤ m → agrees (owned (with_modes r W none)) m ≡ false
      strong m h = conflict (same? (owned (with_modes r W none)) W)
        where
          conflict : (owned (with_modes r W none) ≡ W) ⊎ (owned (with_modes r W none) ≢ W) → agrees (owned (with_modes r W none)) m ≡ false
          conflict (inl e) = rw e (agrees-sym W m ∙ agrees-W m h)
          conflict (inr e) = past-agrees (owned (with_modes r W none)) m (omega (arith, owned-held (with_modes r W none)))

      go : (queue : List Queued) → ((q : Queued) → Mem q queue → 1 ≤ q.mode) → (queue ≡ []) ⊎ Blocked (with_modes r W none) queue
      go [] f = inl refl
      go (q ∷ rest) f = inr (strong q.mode (f q (Memᴰ.head refl)))

  -- UPGRADE with an entry: it waits
  pub served-waits : (r : Room) (queue : List Queued) → r.held ≡ U → has_no_entries r ≡ false → new me ≡ with_modes r r.held W → Served n new queue
  unfolding has_no_entries upgrade_waits
  served-waits r queue holds some here =
      room queue (λ t u. rw here some) (λ t u. clash (rw holds refl) (rw here at u))

  -- ASK that has to wait: the room joins the queue
  pub served-ask : (r : Room) (queue : List Queued) (m : ℕ) → r.held ≡ none → (queue ≡ []) ⊎ Blocked r queue
      → (is_empty queue && agrees m (owned r)) ≡ false → new me ≡ with_modes r r.held m → Served n new (queue ++ (record { room = me; mode = m } ∷ []))
  unfolding upgrade_waits
  served-ask r queue m free head test here =
      room (queue ++ (record { room = me; mode = m } ∷ []))
      (λ t u. absurd (false≢true (rw (here, free) at u)))
      (λ t u. inr (rw here
      (blocked-same r (with_modes r r.held m) (queue ++ (record { room = me; mode = m } ∷ []))
      (same-owned r (with_modes r r.held m) (wanted-same r m)) (blocked-ask r queue (record { room = me; mode = m }) head test))))

-- at a room that wants nothing SERVED is about the queue alone
pub served-head : (n : ℕ) (rooms : ℕ → Room) (queue : List Queued) → Served n rooms queue → (c : ℕ) → c < n → (rooms c).token ≡ true
    → (rooms c).wanted ≡ none → (queue ≡ []) ⊎ Blocked (rooms c) queue
served-head n rooms queue s c h t free = s.head c h t (waits-not (rooms c) free)

-- a room without the token changes, and has none after
pub served-other : (n : ℕ) (old new : ℕ → Room) (queue : List Queued) (me : ℕ) → ((c : ℕ) → c ≢ me → new c ≡ old c) → (new me).token ≡ false
    → Served n old queue → Served n new queue
served-other n old new queue me others without s =
    record { upgrade = λ c h. first c h (same? c me); head = λ c h. second c h (same? c me) }
  where
    first : (c : ℕ) → c < n → (c ≡ me) ⊎ (c ≢ me) → UpgradeServed (new c)
    first c h (inl e) = λ t. clash t (ap (λ (c : ℕ). (new c).token) e ∙ without)
    first c h (inr e) = rw (others c e) (s.upgrade c h)

    second : (c : ℕ) → c < n → (c ≡ me) ⊎ (c ≢ me) → HeadServed (new c) queue
    second c h (inl e) = λ t. clash t (ap (λ (c : ℕ). (new c).token) e ∙ without)
    second c h (inr e) = rw (others c e) (s.head c h)
