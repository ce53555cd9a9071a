-- Codes: 0 none (-), 1 IR, 2 R, 3 U, 4 IW, 5 W.
use Rattle.std.specs.Prelude.{ℕ, Bool, leb}

abbrev pub none : ℕ
none = 0

abbrev pub IR : ℕ
IR = 1

abbrev pub R : ℕ
R = 2

abbrev pub U : ℕ
U = 3

abbrev pub IW : ℕ
IW = 4

abbrev pub W : ℕ
W = 5

-- how many codes there are
abbrev pub codes : ℕ
codes = 6

-- whether a number is a mode's code
abbrev pub is_code : ℕ → Bool
is_code m = leb m W
