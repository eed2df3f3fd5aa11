-- The codes of errors, by bRPC's names.
use Rattle.std.specs.Prelude.{ℕ, ◌==◌, Bool, ◌||◌}

-- the time of the call is over
abbrev pub ERPCTIMEDOUT : ℕ
ERPCTIMEDOUT = 1008

-- the socket was set failed by its link, or there is none
abbrev pub EFAILEDSOCKET : ℕ
EFAILEDSOCKET = 1009

-- the other end closed the link, or gives nothing more
abbrev pub EEOF : ℕ
EEOF = 1014

-- memory ran out
abbrev pub EINTERNAL : ℕ
EINTERNAL = 2001

-- what came is no response that can be read
abbrev pub ERESPONSE : ℕ
ERESPONSE = 2002

-- each request was found taken; this project's own
abbrev pub EREQUESTS : ℕ
EREQUESTS = 3001

-- a code that ends a call whatever retries are left
abbrev pub is_final : ℕ → Bool
is_final code = (code == ERPCTIMEDOUT) || ((code == EEOF) || ((code == EINTERNAL) || (code == ERESPONSE)))
