-- "Well formed": each clause of document 01 by the part that it is about.
use Rattle.std.specs.Prelude.{ℕ, ◌+◌, Bool, true, false, not, ◌&&◌, ◌||◌, List, ltb, leb, eqb, get_or, if◌then◌else◌}
use Rattle.std.specs.Bool.{beq}
use Rattle.base.specs.Tests.{◌implies◌}
use Rattle.base.specs.Below.{all_below}
use Rattle.base.specs.Sums.{one, count_below}
use Rattle.base.specs.Lists.{count}
use Rattle.std.specs.Prelude.{is_none}
use Rattle.modes.specs.Codes.{none, IR, R, U, IW, W, is_code}
use Rattle.room.specs.declared.Room.{Room}
use Rattle.room.specs.declared.Entry.{Entry}
use Rattle.room.specs.Limits.{room_limit}
use Rattle.room.specs.Record.{no_entry, entry_at, lender_of, is_lender}
use Rattle.table.specs.declared.Table.{Table}
use Rattle.table.specs.declared.Wire.{Wire}
use Rattle.table.specs.declared.Queued.{Queued}
use Rattle.table.specs.declared.Message.{Message}
use Rattle.table.specs.declared.Message.TheVariants as msg
use Rattle.table.specs.Limits.{queue_limit, wire_limit}
use Rattle.table.specs.Tables.{room_at, queued_at, wire_at, queue_of, messages_of}

-- "n, codes, counts and room numbers in range": a code that is not none, and the counts
abbrev pub is_mode : ℕ → Bool
is_mode m = leb IR m && leb m W

unfoldable pub sizes_fit : ℕ → ℕ → ℕ → Bool
sizes_fit n queued count = leb 1 n && leb n room_limit && leb queued queue_limit && leb count wire_limit

-- "no entry for oneself"; "an entry of mode none has link number zero"; "entries for [rooms n and above] are all none or zero"
unfoldable pub entry_fine : ℕ → ℕ → ℕ → Entry → Bool
entry_fine n c j e =
    is_code e.mode
    && (eqb e.mode none implies eqb e.link 0)
    && ((leb n j || eqb j c) implies eqb e.mode none)

unfoldable pub entries_fine : ℕ → ℕ → List Entry → Bool
entries_fine n c entries = all_below room_limit (λ j. entry_fine n c j (get_or entries j no_entry))

-- the held and the wanted mode
unfoldable pub holds_rightly : ℕ → ℕ → Bool → Bool
holds_rightly held wanted token =
    is_code held
    && is_code wanted
    -- "U and W are held only with the token"
    && ((eqb held U || eqb held W) implies token)
    -- "held and wanted together only as U and W (an upgrade)"
    && (eqb held none || eqb wanted none || eqb held U && eqb wanted W)

-- the lender, the credit and the link number of room c of n
unfoldable pub owes_rightly : ℕ → ℕ → Room → Bool
owes_rightly n c r =
    is_code r.credit
    && (is_none r.lender || ltb (lender_of r) n)
    -- "no lender is oneself"
    && not (is_lender r.lender c)
    -- "and so has a room without a lender" link number zero
    && (is_none r.lender implies eqb r.link 0)
    -- "lender is nobody exactly when credit is none"
    && beq (is_none r.lender) (eqb r.credit none)
    -- "the room with the token has no lender"
    && (r.token implies is_none r.lender)

-- the record of room c of n
unfoldable pub room_fine : ℕ → ℕ → Room → Bool
room_fine n c r =
    ltb r.toward n
    -- "toward is oneself exactly for the room with the token"
    && beq (eqb r.toward c) r.token
    && holds_rightly r.held r.wanted r.token
    && owes_rightly n c r
    && entries_fine n c r.entries

-- "Records of rooms n and above .. are all none or zero"
unfoldable pub is_blank_entry : Entry → Bool
is_blank_entry e = eqb e.mode none && eqb e.link 0

unfoldable pub is_blank_room : Room → Bool
is_blank_room r =
    eqb r.held none && eqb r.wanted none && not r.token && eqb r.toward 0 && is_none r.lender && eqb r.credit none
    && eqb r.link 0 && eqb r.counter 0 && all_below room_limit (λ j. is_blank_entry (entry_at r j))

-- the mode that a waiting room without an upgrade waits for; none for any other
unfoldable pub due : Room → ℕ
due r = if eqb r.held none then r.wanted else none

-- Below, `rooms` gives each room's record.

-- a place of the queue that is in use: it names a waiting room with its mode
unfoldable pub queued_fine : ℕ → (ℕ → Room) → Queued → Bool
queued_fine n rooms q = ltb q.room n && is_mode q.mode && eqb (due (rooms q.room)) q.mode

unfoldable pub is_blank_queued : Queued → Bool
is_blank_queued q = eqb q.room 0 && eqb q.mode none

-- "GRANT modes only IR, R, IW,
unfoldable pub is_granted : ℕ → Bool
is_granted m = eqb m IR || eqb m R || eqb m IW

-- other message modes not none except the remaining mode and REDUCE"
unfoldable pub message_fine : ℕ → Message → Bool
message_fine n msg.Nothing = false
message_fine n (msg.Request o m idle) = ltb o n && is_mode m
message_fine n (msg.Grant m l) = is_granted m
message_fine n (msg.Token m rest l) = is_mode m && is_code rest
message_fine n (msg.Reduce l m) = is_code m

-- a REQUEST names its origin, a GRANT or a TOKEN its receiver: a waiting room, with its mode;
-- "the room with the token has .. no GRANT under way to it"
unfoldable pub names_rightly : (ℕ → Room) → ℕ → Message → Bool
names_rightly rooms to msg.Nothing = true
names_rightly rooms to (msg.Request o m idle) = eqb (due (rooms o)) m
names_rightly rooms to (msg.Grant m l) = eqb (due (rooms to)) m && not (rooms to).token
names_rightly rooms to (msg.Token m rest l) = eqb (due (rooms to)) m
names_rightly rooms to (msg.Reduce l m) = true

-- a message that is in use; "a sender is never the receiver"
unfoldable pub wire_fine : ℕ → (ℕ → Room) → Wire → Bool
wire_fine n rooms w =
    ltb w.«from» n && ltb w.to n && not (eqb w.«from» w.to) && message_fine n w.message && names_rightly rooms w.to w.message

unfoldable pub is_nothing : Message → Bool
is_nothing msg.Nothing = true
is_nothing (msg.Request o m idle) = false
is_nothing (msg.Grant m l) = false
is_nothing (msg.Token m rest l) = false
is_nothing (msg.Reduce l m) = false

unfoldable pub is_blank_wire : Wire → Bool
is_blank_wire w = eqb w.«from» 0 && eqb w.to 0 && is_nothing w.message

-- "exactly one token, with a room or in a TOKEN message"
unfoldable pub is_token : Message → Bool
is_token msg.Nothing = false
is_token (msg.Request o m idle) = false
is_token (msg.Grant m l) = false
is_token (msg.Token m rest l) = true
is_token (msg.Reduce l m) = false

unfoldable pub tokens : ℕ → (ℕ → Room) → List Wire → ℕ
tokens n rooms messages = count_below n (λ c. (rooms c).token) + count (λ w. is_token w.message) messages

-- "each waiting room without an upgrade is named .. by exactly one of: queue, a REQUEST it began, a GRANT or TOKEN to it; none of these names any other room"
unfoldable pub is_named_in : ℕ → ℕ → Message → Bool
is_named_in c to msg.Nothing = false
is_named_in c to (msg.Request o m idle) = eqb o c
is_named_in c to (msg.Grant m l) = eqb to c
is_named_in c to (msg.Token m rest l) = eqb to c
is_named_in c to (msg.Reduce l m) = false

unfoldable pub names : List Queued → List Wire → ℕ → ℕ
names queue messages c = count (λ q. eqb q.room c) queue + count (λ w. is_named_in c w.to w.message) messages

-- each place of the rooms, the queue and the wires: as it should be where it is in use, else blank
unfoldable pub rooms_fine : Table → Bool
rooms_fine t = all_below room_limit (λ c. if ltb c t.n then room_fine t.n c (room_at t c) else is_blank_room (room_at t c))

unfoldable pub queue_fine : Table → Bool
queue_fine t = all_below queue_limit (λ i. if ltb i t.queued then queued_fine t.n (room_at t) (queued_at t i) else is_blank_queued (queued_at t i))

unfoldable pub wires_fine : Table → Bool
wires_fine t = all_below wire_limit (λ i. if ltb i t.count then wire_fine t.n (room_at t) (wire_at t i) else is_blank_wire (wire_at t i))

unfoldable pub names_fine : Table → Bool
names_fine t = all_below t.n (λ c. eqb (names (queue_of t) (messages_of t) c) (one (ltb 0 (due (room_at t c)))))

unfoldable pub well_formed : Table → Bool
well_formed t =
    sizes_fit t.n t.queued t.count && rooms_fine t && queue_fine t && wires_fine t && eqb (tokens t.n (room_at t) (messages_of t)) 1
    && names_fine t
