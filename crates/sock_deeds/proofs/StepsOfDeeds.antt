-- Deeds put together, one behind the other: of each of them something holds, and they have the numbers of these operations.
use Rattle.std.proofs.Common.{◌≡◌, ℕ, zero, suc, inl, inr, List, [], ◌∷◌, ◌++◌, flat_map, append-nil, refl, sym, ap, ◌∙◌, subst}
use mathlib.Core.Option.{some, some-injective, some-ne-none}
use lib.ListN.{get_elem?}
use Rattle.sock_io.specs.declared.link.Out.{Ghosts}
use Rattle.sock_io.specs.LinkHalves.{OutState}
use Rattle.sock_words.specs.declared.plain.Plan.{Plan}
use Rattle.sock_deeds.specs.Deeds.{Hand, Did, Deed, Chain}
use Rattle.sock_deeds.specs.SocketTableRun.{numbers_of}
use Rattle.sock_deeds.proofs.DeedTotals.{chain_then}
use Rattle.sock_deeds.proofs.Flats.{append_cases, flat-append}

pub record Steps {O : Type 0} (g : Ghosts O) (state : O → OutState) (p : Plan) (P : Did → Type 0) (numbers : List ℕ) (s t : Hand) : Type 0 where
  pub deeds : List (Deed g state p)
  pub chain : Chain g state p deeds s t
  pub each : (k : ℕ) (d : Deed g state p) → get_elem? deeds k ≡ some d → P d.did
  pub numbered : flat_map numbers_of deeds ≡ numbers

module _ {O : Type 0} {g : Ghosts O} {state : O → OutState} {p : Plan} {P : Did → Type 0} where
  pub no_step : (s t : Hand) → t ≡ s → Steps g state p P [] s t
  no_step s t e = record { deeds = []; chain = e; each = λ k d at. absurd (some-ne-none d (sym at)); numbered = refl }

  pub one_step : (d : Deed g state p) → P d.did → Steps g state p P (numbers_of d) d.before d.after
  one_step d holds = record { deeds = d ∷ []; chain = (refl, refl); each = λ k e at. only k e at; numbered = append-nil (numbers_of d) }
    where
      only : (k : ℕ) (e : Deed g state p) → get_elem? (d ∷ []) k ≡ some e → P e.did
      only zero e at = subst (λ (x : Deed g state p). P x.did) (some-injective d e at) holds
      only (suc k) e at = absurd (some-ne-none e (sym at))

  pub then_steps : (ns ms : List ℕ) (s t u : Hand) → Steps g state p P ns s t → Steps g state p P ms t u → Steps g state p P (ns ++ ms) s u
  then_steps ns ms s t u a b = record {
    deeds = a.deeds ++ b.deeds;
    chain = chain_then a.deeds b.deeds s t u a.chain b.chain;
    each = λ k d at. elim (append_cases a.deeds b.deeds k d at) [ inl h ↦ a.each k d h | inr w ↦ b.each w.0 d w.2 ];
    numbered = flat-append numbers_of a.deeds b.deeds ∙ (ap (λ l. l ++ flat_map numbers_of b.deeds) a.numbered ∙ ap (λ l. ns ++ l) b.numbered);
  }

  pub steps_as : (ns ms : List ℕ) (s t : Hand) → ns ≡ ms → Steps g state p P ns s t → Steps g state p P ms s t
  steps_as ns ms s t e = subst (λ l. Steps g state p P l s t) e
