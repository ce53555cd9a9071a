-- The bytes of a session's lines, in ASCII.
use Rattle.std.specs.Prelude.{ℕ}

abbrev pub line_feed : ℕ
line_feed = 10

abbrev pub space : ℕ
space = 32

-- the digit 0; the others follow it
abbrev pub zero-digit : ℕ
zero-digit = 48

-- the first letters of the lines
abbrev pub letter-n : ℕ
letter-n = 110

abbrev pub letter-a : ℕ
letter-a = 97

abbrev pub letter-u : ℕ
letter-u = 117

abbrev pub letter-h : ℕ
letter-h = 104

abbrev pub letter-d : ℕ
letter-d = 100

-- the letters of the modes
abbrev pub letter-I : ℕ
letter-I = 73

abbrev pub letter-R : ℕ
letter-R = 82

abbrev pub letter-U : ℕ
letter-U = 85

abbrev pub letter-W : ℕ
letter-W = 87

-- no mode, and a code that is none
abbrev pub dash : ℕ
dash = 45

abbrev pub question : ℕ
question = 63

-- the token is under way
abbrev pub star : ℕ
star = 42
