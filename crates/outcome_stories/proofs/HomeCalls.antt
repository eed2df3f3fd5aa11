-- What holds of each call that lies at home holds behind a step aside too, where it holds of the call that the step puts there.
use Rattle.std.proofs.Common.{◌≡◌, ℕ, set, ⊎_elim, sym, ap, subst}
use Rattle.std.specs.Prelude as std
use mathlib.Core.Option.{Option, some, none, some-injective, some-ne-none}
use lib.ListN.{get_elem?}
use Rattle.atomic_table.proofs.Lists.{at_set}
use Rattle.seat_programs.specs.sock_message.specs.Asked.{Asked}
use Rattle.seat_programs.specs.Asides.{Step, Found, PutCall, TakeCall, TakeBytes, Taking, Bytes}
use Rattle.seat_programs.specs.FoundAndChangedAside.{call_at, more_given, calls_after}
use Rattle.seat_programs.specs.Cores.{Calls}

abbrev pub AreCalls : (Asked → Type 0) → Calls → Type 0
AreCalls is_call a = (k : ℕ) (asked : Asked) → call_at (get_elem? a.homes k) ≡ some asked → is_call asked

abbrev pub PutsAsked : (Asked → Type 0) → Step → Type 0
PutsAsked is_call (PutCall i asked) = is_call asked
PutsAsked is_call other = Unit {0}

home_is : (x : Option (Option (std.Option Asked))) (asked : Asked) → call_at x ≡ some asked → x ≡ some (some (std.Some asked))
home_is none asked e = absurd (some-ne-none asked (sym e))
home_is (some none) asked e = absurd (some-ne-none asked (sym e))
home_is (some (some std.None)) asked e = absurd (some-ne-none asked (sym e))
home_is (some (some (std.Some a))) asked e = ap (λ (z : Asked). some (some (std.Some z))) (some-injective a asked e)

one_asked : (a b : Asked) → some (std.Some a) ≡ some (std.Some b) → a ≡ b
one_asked a b e = cc

abbrev pub none_asked : std.Option Asked
none_asked = std.None

no_asked : (a : Asked) → some none_asked ≡ some (std.Some a) → ⊥
no_asked a e = cc

calls_given : (is_call : Asked → Type 0) (k : ℕ) (t : Taking) (a : Calls) → AreCalls is_call a → AreCalls is_call (more_given k t a)
calls_given is_call k (Bytes bytes) a h = h
calls_given is_call k _ a h = h

pub calls_behind : (is_call : Asked → Type 0) (x : Step) (found : Found x) (a : Calls) → PutsAsked is_call x → AreCalls is_call a → AreCalls is_call (calls_after x found a)
calls_behind is_call (PutCall i asked) found a puts h = λ n other at. ⊎_elim
    (λ r. subst is_call (one_asked asked other r.1) puts) (λ r. h n other (ap call_at r.1))
    (at_set a.homes i n (some (std.Some asked)) (some (std.Some other)) (home_is (get_elem? (set a.homes i (some (std.Some asked))) n) other at))
calls_behind is_call (TakeCall i) found a puts h = λ n other at. ⊎_elim
    (λ r. absurd (no_asked other r.1)) (λ r. h n other (ap call_at r.1))
    (at_set a.homes i n (some std.None) (some (std.Some other)) (home_is (get_elem? (set a.homes i (some std.None)) n) other at))
calls_behind is_call (TakeBytes k room) found a puts h = calls_given is_call k found a h
calls_behind is_call _ found a puts h = h
