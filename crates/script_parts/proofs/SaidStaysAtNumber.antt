-- What was told of an operation stands at its number, whatever is told besides.
use Rattle.std.proofs.Common.{◌≡◌, ℕ, zero, suc, ◌+◌, ◌<◌, List, [], ◌∷◌, ◌++◌, append_assoc, length, length-set, replicate, slice_get, slice_set, Option, Some, None, refl, sym, ap, ◌∙◌, subst, arith}
use mathlib.Core.Option.{some, some-injective, some-ne-none}
use lib.ListN.{get_elem?}
use Rattle.sock_words.specs.declared.outcome.Outcome.{Outcome}
use Rattle.rpc_client.specs.declared.acting.Told.{Told}
use Rattle.calls_done.specs.call_whys.specs.call_told.specs.Least.{IsToldIn}
use Rattle.callless_fits.specs.sock_deeds.proofs.Flats.{append_first, append_later}
use Rattle.script_parts.specs.OutcomesSaidByNumber.{said_by, said_by_each}
use Rattle.script_parts.proofs.ClientSayingsByNumber.{none_long}
use Rattle.script_parts.specs.ThreadScriptTold.{outcomes_of}

-- something is said of this operation
abbrev pub IsSaid : List (Option Outcome) → ℕ → Type 0
IsSaid said o = (by : Outcome) × (slice_get said o ≡ Some (Some by))

set_here : (said : List (Option Outcome)) (n : ℕ) (by : Outcome) → n < length said → IsSaid (slice_set said n (Some by)) n
set_here [] n by less = absurd (omega arith)
set_here (s ∷ said) zero by less = (by, refl)
set_here (s ∷ said) (suc n) by less = set_here said n by (omega arith)

set_there : (said : List (Option Outcome)) (n o : ℕ) (by : Outcome) → IsSaid said o → IsSaid (slice_set said n (Some by)) o
set_there [] n o by h = h
set_there (s ∷ said) zero zero by h = (by, refl)
set_there (s ∷ said) zero (suc o) by h = h
set_there (s ∷ said) (suc n) zero by h = h
set_there (s ∷ said) (suc n) (suc o) by h = set_there said n o by h

still : (said : List (Option Outcome)) (ts : List Told) (o : ℕ) → IsSaid said o → IsSaid (said_by said ts) o
still said [] o h = h
still said (t ∷ ts) o h = still (slice_set said t.number (Some t.outcome)) ts o (set_there said t.number o t.outcome h)

still_each : (said : List (Option Outcome)) (tss : List (List Told)) (o : ℕ) → IsSaid said o → IsSaid (said_by_each said tss) o
still_each said [] o h = h
still_each said (ts ∷ tss) o h = still_each (said_by said ts) tss o (still said ts o h)

long : (said : List (Option Outcome)) (ts : List Told) → length (said_by said ts) ≡ length said
long said [] = refl
long said (t ∷ ts) = long (slice_set said t.number (Some t.outcome)) ts ∙ length-set said t.number (Some t.outcome)

one_said : (said : List (Option Outcome)) (ts : List Told) (i : ℕ) (t : Told) → get_elem? ts i ≡ some t → t.number < length said → IsSaid (said_by said ts) t.number
one_said said [] i t at less = absurd (some-ne-none t (sym at))
one_said said (u ∷ ts) zero t at less =
    subst (λ (x : Told). IsSaid (said_by said (u ∷ ts)) x.number) (some-injective u t at)
    (still (slice_set said u.number (Some u.outcome)) ts u.number (set_here said u.number u.outcome (let e = ap (λ (x : Told). x.number) (some-injective u t at) in omega arith)))
one_said said (u ∷ ts) (suc i) t at less = one_said (slice_set said u.number (Some u.outcome)) ts i t at (omega (arith, length-set said u.number (Some u.outcome)))

each_said : (said : List (Option Outcome)) (tss : List (List Told)) (c i : ℕ) (ts : List Told) (t : Told) → get_elem? tss c ≡ some ts → get_elem? ts i ≡ some t → t.number < length said → IsSaid (said_by_each said tss) t.number
each_said said [] c i ts t by at less = absurd (some-ne-none ts (sym by))
each_said said (us ∷ tss) zero i ts t by at less = still_each (said_by said us) tss t.number (one_said said us i t (subst (λ (l : List Told). get_elem? l i ≡ some t) (sym (some-injective us ts by)) at) less)
each_said said (us ∷ tss) (suc c) i ts t by at less = each_said (said_by said us) tss c i ts t by at (omega (arith, long said us))

-- ## By the clients' own, by the calls that they ended, and by what was read

module _ (n : ℕ) (told ended : List (List Told)) (read : List Told) (o : ℕ) (less : o < n) where
  said_in : IsToldIn o ((told ++ ended) ++ read ∷ []) → IsSaid (outcomes_of n told ended read) o
  said_in h = subst (IsSaid (outcomes_of n told ended read)) h.number (each_said (replicate n None) ((told ++ ended) ++ read ∷ []) h.teller h.place h.told h.one h.by h.at (let a = none_long n in let b = h.number in omega arith))

  -- a client told it of its own operation
  pub own_said : IsToldIn o told → IsSaid (outcomes_of n told ended read) o
  own_said h = said_in record { teller = h.teller; place = h.place; told = h.told; one = h.one; by = append_first (told ++ ended) (read ∷ []) h.teller h.told (append_first told ended h.teller h.told h.by); at = h.at; number = h.number }

  -- or it is the end of a call
  pub end_said : IsToldIn o (ended ++ read ∷ []) → IsSaid (outcomes_of n told ended read) o
  end_said h =
      let k : ℕ = length told + h.teller in
      said_in record {
        teller = k;
        place = h.place;
        told = h.told;
        one = h.one;
        by = ap (λ (l : List (List Told)). get_elem? l k) (append_assoc told ended (read ∷ [])) ∙ append_later told (ended ++ read ∷ []) h.teller h.told h.by;
        at = h.at;
        number = h.number;
      }

-- of an operation of which something is said, not nothing is said
pub said_some : (said : List (Option Outcome)) (o : ℕ) → IsSaid said o → slice_get said o ≡ Some None → ⊥
said_some said o h none_ = let e : Some (Some h.0) ≡ Some None = sym h.1 ∙ none_ in absurd (cc)
