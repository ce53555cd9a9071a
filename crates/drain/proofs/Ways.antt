-- WAY: in every table that events lead to some heights lead to the token.
use Rattle.std.specs.Prelude.{◌≡◌, refl, true, false, ◌&&◌, ℕ, ◌≤◌, eqb}
use Rattle.std.proofs.Common.{sym, ◌∙◌, ap, arith, eqb-true, ne_eqb}
use Rattle.std.proofs.Math.Path.{subst⁻¹}
use mathlib.Core.List.{List, [], ◌∷◌, ◌++◌, append_assoc, append-nil}
use Rattle.base.specs.Choice.{by-test, split}
use Rattle.base.specs.Tests.{or_left, or_right}
use Rattle.modes.specs.Codes.{W}
use Rattle.modes.specs.Modes.{agrees, can_lend}
use Rattle.room.specs.declared.Room.{Room}
use Rattle.room.specs.Limits.{room_limit}
use Rattle.room.specs.Record.{with_modes}
use Rattle.room.specs.Owned.{owned, has_no_entries}
use Rattle.table.specs.declared.Table.{Table}
use Rattle.table.specs.declared.Wire.{Wire}
use Rattle.table.specs.Tables.{Answer}
use Rattle.table.specs.declared.Message.TheVariants as msg
use Rattle.table.specs.Tables.{room_at, messages_of, fresh_table}
use Rattle.rules.specs.declared.Event.{Event}
use Rattle.rules.specs.Events.{ASK, UPGRADE, DELIVER, is_ask, is_upgrade, is_hand_back, is_deliver}
use Rattle.rules.specs.Refusals.{refusal}
use Rattle.rules.specs.Work.{Work, work_at, send, join}
use Rattle.rules.specs.Rules.{hold, want, is_empty, ask_with, ask_without, ask, upgrade}
use Rattle.rules.specs.Step.{outcome, made, step_of, runs}
use Rattle.facts.specs.Accepted.{Accepted, accepted}
use Rattle.facts.specs.Wires.{wire}
use Rattle.kept.specs.Changed.{changed, changed-same, changed-elsewhere}
use Rattle.kept.specs.Acts.{now}
use Rattle.kept.specs.Start.{same-rooms}
use Rattle.base.specs.Ranks.{rerooted}
use Rattle.measure.specs.Way.{Leads}
use Rattle.measure.specs.Heights.{leads-modes, leads-request-sent}
use Rattle.measure.specs.Start.{leads-fresh}
use Rattle.safe.specs.Asks.{ask-safe}
use Rattle.safe.specs.Upgrades.{upgrade-safe}
use Rattle.safe.specs.Step.{Safe, begins, shaped, facts, unowned, messages-count, step-refused, step-safe}
use Rattle.drain.specs.Drains.{is_draining}
use Rattle.drain.proofs.Steps.{LeadsIn, led-after, led-here, drains-lower}

module _ (n : ℕ) (rooms : ℕ → Room) (kept : List Wire) (w : Work) (height : ℕ → ℕ) (leads : Leads n (now rooms w) (kept ++ w.sent) height) where
  -- another held and another wanted mode lead nobody astray
  modes-lead : (h v : ℕ) → Leads n (changed rooms w.me (with_modes w.room h v)) (kept ++ w.sent) height
  modes-lead h v =
      leads-modes n (now rooms w) (changed rooms w.me (with_modes w.room h v)) (kept ++ w.sent) w.me
      (λ c e. changed-elsewhere rooms w.me (with_modes w.room h v) w.room c e) height leads h v
      (changed-same rooms w.me (with_modes w.room h v) ∙ sym (ap (λ (r : Room). with_modes r h v) (changed-same rooms w.me w.room)))

  abbrev Led : Work → Type 0
  Led v = Leads n (now rooms v) (kept ++ v.sent) height

  ask-led : (m : ℕ) → Led (ask w m)
  unfolding ask ask_with ask_without hold want join send
  ask-led m =
      by-test Led w.room.token (ask_with w m) (ask_without w m)
      (λ with. by-test Led (is_empty w.queue && agrees m (owned w.room)) (hold w m) (join (want w m) w.me m)
      (λ e. modes-lead m 0) (λ e. modes-lead w.room.held m))
      (λ without. by-test Led (can_lend (owned w.room) m) (hold w m)
      (send (want w m) w.room.toward (msg.Request w.me m (eqb (owned w.room) 0)))
      (λ e. modes-lead m 0)
      (λ e. rw (← append_assoc kept w.sent (wire w.me w.room.toward (msg.Request w.me m (eqb (owned w.room) 0)) ∷ []))
      (leads-request-sent n (changed rooms w.me (with_modes w.room w.room.held m)) (kept ++ w.sent) height (modes-lead w.room.held m)
      w.me w.room.toward w.me m (eqb (owned w.room) 0))))

  upgrade-led : Led (upgrade w)
  unfolding upgrade hold want
  upgrade-led =
      by-test Led (has_no_entries w.room) (hold w W) (want w W) (λ e. modes-lead W 0) (λ e. modes-lead w.room.held W)

-- what a step is, by the kind of its event
step-asks : (t : Table) (e : Event) → refusal t e ≡ 0 → is_ask e ≡ true → step_of t e ≡ outcome t (messages_of t) (ask (work_at t e.room) e.mode)
unfolding step_of made
step-asks t e r k = rw (r, k) refl

step-upgrades : (t : Table) (e : Event) → refusal t e ≡ 0 → e.kind ≡ UPGRADE → step_of t e ≡ outcome t (messages_of t) (upgrade (work_at t e.room))
unfolding step_of made
step-upgrades t e r k = rw (r, k) refl

draining : (e : Event) → (is_hand_back e ≡ false → is_deliver e ≡ true) → is_draining e ≡ true
unfolding is_draining
draining e h =
    split (is_hand_back e) (λ b. or_right (is_deliver e) (is_hand_back e) b) (λ b. or_left (is_deliver e) (is_hand_back e) (h b))

-- heights that lead to the token of a table
abbrev pub Way : Table → Type 0
Way t = (height : ℕ → ℕ) × LeadsIn t height

module _ (n : ℕ) (t : Table) (s : Safe n t) (way : Way t) where
  -- ASK and UPGRADE
  asked-led : (e : Event) → Accepted t e → e.kind ≡ ASK → LeadsIn (outcome t (messages_of t) (ask (work_at t e.room) e.mode)).table way.0
  asked-led e a k =
      led-after n t s way.0 way.1 (messages_of t) (ask (work_at t e.room) e.mode)
      (ask-safe t.n (room_at t) (messages_of t) (work_at t e.room) (begins n t s e.room a.low) (a.idle (ne_eqb e.kind DELIVER (λ z. omega arith)))
      (a.free asks) e.mode (a.some asks) (a.code asks) (rw (append-nil (messages_of t)) (omega (arith, messages-count n t s, a.few asks)))
      (rw (same-rooms t (shaped n t s) (facts n t s) (unowned n t s) e.room) (a.unworn asks)))
      way.0
      (ask-led t.n (room_at t) (messages_of t) (work_at t e.room) way.0 (led-here n t s way.0 way.1 e.room) e.mode)
    where
      asks : is_ask e ≡ true
      asks = rw k refl

  upgraded-led : (e : Event) → Accepted t e → e.kind ≡ UPGRADE → LeadsIn (outcome t (messages_of t) (upgrade (work_at t e.room))).table way.0
  upgraded-led e a k =
      led-after n t s way.0 way.1 (messages_of t) (upgrade (work_at t e.room))
      (upgrade-safe t.n (room_at t) (messages_of t) (work_at t e.room) (begins n t s e.room a.low) (a.idle (ne_eqb e.kind DELIVER (λ z. omega arith)))
      (a.holds (rw k refl)))
      way.0
      (upgrade-led t.n (room_at t) (messages_of t) (work_at t e.room) way.0 (led-here n t s way.0 way.1 e.room))

  -- whatever the event
  made-way : (e : Event) → refusal t e ≡ 0 → Way (step_of t e).table
  made-way e r =
      split (is_ask e)
      (λ k. (way.0, asks k))
      (λ x. split (is_upgrade e)
      (λ k. (way.0, upgrades k))
      (λ y. let l = drains-lower n t s way.0 way.1 e (drains x y) r in (l.height, l.leads)))
    where
      a : Accepted t e
      a = accepted t e r

      asks : is_ask e ≡ true → LeadsIn (step_of t e).table way.0
      asks k = subst⁻¹ (λ (b : Answer). LeadsIn b.table way.0) (step-asks t e r k) (asked-led e a (eqb-true _ _ k))

      upgrades : is_upgrade e ≡ true → LeadsIn (step_of t e).table way.0
      upgrades k = subst⁻¹ (λ (b : Answer). LeadsIn b.table way.0) (step-upgrades t e r (eqb-true _ _ k)) (upgraded-led e a (eqb-true _ _ k))

      drains : is_ask e ≡ false → is_upgrade e ≡ false → is_draining e ≡ true
      drains x y = draining e (λ z. a.kinds x y z)

  pub step-way : (e : Event) → Way (step_of t e).table
  step-way e = split (eqb (refusal t e) 0) (λ b. made-way e (eqb-true _ _ b)) (λ b. subst⁻¹ Way (step-refused t e b) way)

pub runs-way : (n : ℕ) (es : List Event) (t : Table) → Safe n t → Way t → Way (runs t es)
unfolding runs
runs-way n [] t s way = way
runs-way n (e ∷ es) t s way = runs-way n es (step_of t e).table (step-safe n t s e) (step-way n t s way e)

-- "Fresh table: .. all toward 0"
pub fresh-way : (n : ℕ) → n ≤ room_limit → Way (fresh_table n)
unfolding fresh_table
fresh-way n most = (rerooted 0 (λ c. 0), leads-fresh n most)
