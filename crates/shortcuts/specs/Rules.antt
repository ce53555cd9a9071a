-- The rules with the five places open: only what the choices change is written anew.
use Rattle.std.specs.Prelude.{ℕ, Bool, false, not, ◌&&◌, List, [], ◌∷◌, eqb, if◌then◌else◌}
use Rattle.modes.specs.Modes.{agrees, is_stronger, can_lend}
use Rattle.room.specs.declared.Room.{Room}
use Rattle.room.specs.declared.Changed.{Changed}
use Rattle.room.specs.declared.Passed.{Passed}
use Rattle.room.specs.Record.{entry_of, entry_at, lender_in, with_token, with_debt, with_counter, set_entry}
use Rattle.room.specs.Owned.{owned}
use Rattle.room.specs.Rules.{next_link, is_worn, granted, tokened}
use Rattle.table.specs.declared.Queued.{Queued}
use Rattle.table.specs.declared.Message.{Message}
use Rattle.table.specs.declared.Message.TheVariants as msg
use Rattle.rules.specs.Work.{Work, with_room, with_queue, with_worn, send, join, change}
use Rattle.rules.specs.Rules.{hold, want, lend, settle, upgrade_waits, upgraded, is_empty}
use Rattle.variants.specs.Step.{Rules}
use Rattle.shortcuts.specs.Choices.{Choices}

module _ (c : Choices) where
  -- "REDUCE: if b's entry for a has this link number and a stronger mode than the new one, it takes the new mode"
  unfoldable pub reduced_by : Room → ℕ → ℕ → ℕ → Room
  reduced_by r a l m =
      if c.matches (entry_at r a) l && is_stronger (entry_at r a).mode m then set_entry r a (entry_of m l)
      else r

  -- "TOKEN: .. its counter is the larger of its own and the link number"
  unfoldable pub tokened_as : Room → ℕ → ℕ → ℕ → ℕ → ℕ → Changed
  tokened_as r me a m rest l =
      let t = tokened r me a m rest l in
      record { room = with_counter t.room (c.counts r.counter l); send = t.send }

  -- "Passing to w: the entry for w is cleared, the counter goes up by 1 .. toward is w; if what remains isn't none, lender w, .."
  unfoldable pub passed_as : Room → ℕ → Passed
  passed_as r w =
      let k = next_link r.counter in
      let rest = owned (c.leaves r w) in
      let gone = with_token (with_counter (c.leaves r w) k) false w in
      record { room = if eqb rest 0 then gone else with_debt gone (lender_in w) rest k; rest = rest; link = k; worn = is_worn r.counter }

  unfoldable pub pass_by : Work → ℕ → ℕ → Work
  pass_by w y m =
      let p = passed_as w.room y in
      send (with_worn (with_room w p.room) p.worn) y (msg.Token m p.rest p.link)

  -- "Then, while no upgrade waits and the head of the queue agrees with owned, take it off: .. if owned can lend it, lend; else pass and stop."
  unfoldable pub serve_queue_by : Work → List Queued → Work
  serve_queue_by w [] = with_queue w []
  serve_queue_by w (q ∷ rest) =
      if upgrade_waits w.room then with_queue w (q ∷ rest)
      else (if not (agrees (c.tested w.room) q.mode) then with_queue w (q ∷ rest)
      else (if eqb q.room w.me then serve_queue_by (hold w q.mode) rest
      else (if can_lend (c.tested w.room) q.mode then serve_queue_by (lend w q.room q.mode) rest
      else pass_by (with_queue w rest) q.room q.mode)))

  unfoldable pub serve_by : Work → Work
  serve_by w = serve_queue_by (upgraded w) w.queue

  unfoldable pub settle_or_serve_by : Work → Work
  settle_or_serve_by w = if w.room.token then serve_by w else settle w

  -- "With the token: if the queue is empty and m agrees with owned, x holds m; .. Without it: if owned can lend m, x holds m .."
  unfoldable pub ask_by : Work → ℕ → Work
  ask_by w m =
      if w.room.token then
      (if is_empty w.queue && agrees m (c.tested w.room) then hold w m else join (want w m) w.me m)
      else (if can_lend (c.tested w.room) m then hold w m
      else send (want w m) w.room.toward (msg.Request w.me m (eqb (owned w.room) 0)))

  unfoldable pub hand_back_by : Work → Work
  hand_back_by w = settle_or_serve_by (hold w 0)

  -- "At another room b: if the origin owned nothing, isn't b, and owned of b can lend the mode, b lends, then settles"
  unfoldable pub take_request_by : Work → ℕ → ℕ → Bool → Work
  take_request_by w o m idle =
      if w.room.token then serve_by (join w o m)
      else (if c.may_lend idle && not (eqb o w.me) && can_lend (c.tested w.room) m then settle (lend w o m)
      else send w w.room.toward (msg.Request o m idle))

  unfoldable pub receive_by : Work → ℕ → Message → Work
  receive_by w a msg.Nothing = w
  receive_by w a (msg.Request o m idle) = take_request_by w o m idle
  receive_by w a (msg.Grant m l) = change w (granted w.room a m l)
  receive_by w a (msg.Token m rest l) = serve_by (change w (tokened_as w.room w.me a m rest l))
  receive_by w a (msg.Reduce l m) = settle_or_serve_by (with_room w (reduced_by w.room a l m))

-- the rules with these choices
abbrev pub rules_by : Choices → Rules
rules_by c = record { asks = ask_by c; hands_back = hand_back_by c; receives = receive_by c }
