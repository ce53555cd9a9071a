-- Events given as numbers. An argument that an event does not use is ignored.
use Rattle.std.specs.Prelude.{◌≡◌, ℕ, ◌<◌, Bool, eqb, Result, MatchResult}
use Rattle.modes.specs.Codes.{none}
use Rattle.table.specs.declared.refusal.Refusal.{Refusal}
use Rattle.table.specs.declared.refusal.Refusal.TheVariants as refusal
use Rattle.rules.specs.declared.Event.{Event}
use Rattle.rules.specs.declared.Kind.{Kind}
use Rattle.rules.specs.declared.Kind.TheVariants as kind

-- the kinds
abbrev pub ASK : ℕ
ASK = 0

abbrev pub UPGRADE : ℕ
UPGRADE = 1

abbrev pub HANDBACK : ℕ
HANDBACK = 2

abbrev pub DELIVER : ℕ
DELIVER = 3

-- the number of each kind
abbrev pub code_of : Kind → ℕ
code_of kind.Ask = ASK
code_of kind.Upgrade = UPGRADE
code_of kind.HandBack = HANDBACK
code_of kind.Deliver = DELIVER

-- the result is the kind with this number; "2 EVENT: unknown kind"
abbrev pub Decodes : ℕ → Result Kind Refusal → Type 0
Decodes k r = MatchResult r (λ kind. code_of kind ≡ k) (λ why. (why ≡ refusal.Event) × (DELIVER < k))

-- ASK(room, mode), UPGRADE(room), HANDBACK(room), DELIVER(room, other)
abbrev pub is_ask : Event → Bool
is_ask e = eqb e.kind ASK

abbrev pub is_upgrade : Event → Bool
is_upgrade e = eqb e.kind UPGRADE

abbrev pub is_hand_back : Event → Bool
is_hand_back e = eqb e.kind HANDBACK

abbrev pub is_deliver : Event → Bool
is_deliver e = eqb e.kind DELIVER

-- an event of each kind
abbrev pub asks : ℕ → ℕ → Event
asks x m = record { kind = ASK; room = x; other = 0; mode = m }

abbrev pub upgrades : ℕ → Event
upgrades x = record { kind = UPGRADE; room = x; other = 0; mode = none }

abbrev pub hands_back : ℕ → Event
hands_back x = record { kind = HANDBACK; room = x; other = 0; mode = none }

abbrev pub delivers : ℕ → ℕ → Event
delivers a b = record { kind = DELIVER; room = a; other = b; mode = none }
