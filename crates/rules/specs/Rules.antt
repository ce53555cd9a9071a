-- "Steps": lend, settle, serve, pass; ASK, UPGRADE, HANDBACK and what each message does, in document 01's words.
use Rattle.std.specs.Prelude.{ℕ, Bool, true, false, not, ◌&&◌, List, [], ◌∷◌, eqb, if◌then◌else◌}
use Rattle.modes.specs.Codes.{none, U, W}
use Rattle.modes.specs.Modes.{agrees, can_lend}
use Rattle.room.specs.declared.Room.{Room}
use Rattle.room.specs.Record.{with_modes}
use Rattle.room.specs.Owned.{owned, has_no_entries}
use Rattle.room.specs.Rules.{lent, passed, settled, granted, tokened, reduced}
use Rattle.table.specs.declared.Queued.{Queued}
use Rattle.table.specs.declared.Message.{Message}
use Rattle.table.specs.declared.Message.TheVariants as msg
use Rattle.rules.specs.Work.{Work, with_room, with_queue, with_worn, send, join, change}

-- x holds m, and wants nothing
unfoldable pub hold : Work → ℕ → Work
hold w m = with_room w (with_modes w.room m none)

-- x wants m
unfoldable pub want : Work → ℕ → Work
want w m = with_room w (with_modes w.room w.room.held m)

-- "Lend m to y: .. GRANT to y."
unfoldable pub lend : Work → ℕ → ℕ → Work
lend w y m =
    let l = lent w.room y m in
    send (with_worn (with_room w l.room) l.worn) y (msg.Grant m l.link)

-- "Passing to w: .. TOKEN goes to w with the mode and the owned mode that remains"
unfoldable pub pass : Work → ℕ → ℕ → Work
pass w y m =
    let p = passed w.room y in
    send (with_worn (with_room w p.room) p.worn) y (msg.Token m p.rest p.link)

-- "Settle (without the token)"
unfoldable pub settle : Work → Work
settle w = change w (settled w.room)

-- an upgrade waits: U is held and W wanted
unfoldable pub upgrade_waits : Room → Bool
upgrade_waits r = eqb r.held U && eqb r.wanted W

-- "a waiting upgrade with no entries becomes a held W"
unfoldable pub upgraded : Work → Work
upgraded w = if upgrade_waits w.room && has_no_entries w.room then hold w W else w

-- "Then, while no upgrade waits and the head of the queue agrees with owned, take it off: if it is the room itself, it holds the mode
-- and wants none; if owned can lend it, lend; else pass and stop."
unfoldable pub serve_queue : Work → List Queued → Work
serve_queue w [] = with_queue w []
serve_queue w (q ∷ rest) =
    if upgrade_waits w.room then with_queue w (q ∷ rest)
    else (if not (agrees (owned w.room) q.mode) then with_queue w (q ∷ rest)
    else (if eqb q.room w.me then serve_queue (hold w q.mode) rest
    else (if can_lend (owned w.room) q.mode then serve_queue (lend w q.room q.mode) rest
    else pass (with_queue w rest) q.room q.mode)))

-- "Serve (with the token)"
unfoldable pub serve : Work → Work
serve w = serve_queue (upgraded w) w.queue

-- "Then settle or serve."
unfoldable pub settle_or_serve : Work → Work
settle_or_serve w = if w.room.token then serve w else settle w

-- "With the token: if the queue is empty and m agrees with owned, x holds m; else x wants m and joins the end of the queue."
unfoldable pub is_empty : List Queued → Bool
is_empty [] = true
is_empty (q ∷ rest) = false

unfoldable pub ask_with : Work → ℕ → Work
ask_with w m = if is_empty w.queue && agrees m (owned w.room) then hold w m else join (want w m) w.me m

-- "Without it: if owned can lend m, x holds m and nothing is sent; else x wants m and sends REQUEST to toward."
unfoldable pub ask_without : Work → ℕ → Work
ask_without w m =
    if can_lend (owned w.room) m then hold w m
    else send (want w m) w.room.toward (msg.Request w.me m (eqb (owned w.room) none))

-- "ASK(x, m)"
unfoldable pub ask : Work → ℕ → Work
ask w m = if w.room.token then ask_with w m else ask_without w m

-- "UPGRADE(x). x holds U. With no entries it holds W; else it wants W and waits, ahead of the queue."
unfoldable pub upgrade : Work → Work
upgrade w = if has_no_entries w.room then hold w W else want w W

-- "HANDBACK(x). Held becomes none. Then settle or serve."
unfoldable pub hand_back : Work → Work
hand_back w = settle_or_serve (hold w none)

-- "REQUEST at the room with the token: it joins the end of the queue, then serve. At another room b: if the origin owned nothing, isn't b,
-- and owned of b can lend the mode, b lends, then settles; else b sends it on, unchanged, to toward."
unfoldable pub take_request : Work → ℕ → ℕ → Bool → Work
take_request w o m idle =
    if w.room.token then serve (join w o m)
    else (if idle && not (eqb o w.me) && can_lend (owned w.room) m then settle (lend w o m)
    else send w w.room.toward (msg.Request o m idle))

-- what the message taken from a does at the room
unfoldable pub receive : Work → ℕ → Message → Work
receive w a msg.Nothing = w
receive w a (msg.Request o m idle) = take_request w o m idle
receive w a (msg.Grant m l) = change w (granted w.room a m l)
receive w a (msg.Token m rest l) = serve (change w (tokened w.room w.me a m rest l))
receive w a (msg.Reduce l m) = settle_or_serve (with_room w (reduced w.room a l m))
