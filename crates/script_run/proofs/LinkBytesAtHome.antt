-- What a link took, as it lies at its home.
use Rattle.std.proofs.Common.{◌≡◌, ℕ, zero, suc, ◌+◌, ◌<◌, List, [], ◌∷◌, ◌++◌, map, length, slice_get, slice_index_or, flat_map, Option, Some, IfSome, is_some, if◌then◌else◌, Bool, true, false, ap, sym, subst, refl, ◌∙◌, append-nil, arith}
use Rattle.std.proofs.lemmas.List.{length-map}
use Rattle.std.specs.Prelude.{IsSome}
use mathlib.Core.Option as core
use lib.ListN.{get_elem?}
use Rattle.brpc_model.specs.ReturnedLink.{LinkEnd}
use Rattle.sock_io.specs.LinkHalves.{OutState}
use Rattle.sock_words.specs.declared.plain.Plan.{Plan}
use Rattle.sock_model.specs.declared.home.Home.{Home}
use Rattle.sock_model.specs.declared.home.Home.TheVariants.{Link}
use Rattle.seat_programs.specs.Cores.{lies_at, link_place}
use Rattle.seat_programs.specs.ScheduledRuns.{from_to}
use Rattle.seat_programs.specs.ScriptSetupToEnding.{taken_by, took_at_home}
use Rattle.machine_model.specs.declared.home_message.HomeMessage.{HomeMessage}
use Rattle.machine_model.specs.MachineLinks.{LinksData, Taken, Agrees, letter_home, holder_of, link_with, link_home, homes_of}

-- ## Places in lists

behind : {A : Type 0} (xs ys : List A) (k : ℕ) → get_elem? (xs ++ ys) (length xs + k) ≡ get_elem? ys k
behind [] ys k = ap (get_elem? ys) (let e : 0 + k ≡ k = omega arith in e)
behind (x ∷ xs) ys k = ap (get_elem? (x ∷ (xs ++ ys))) (let e : suc (length xs) + k ≡ suc (length xs + k) = omega arith in e) ∙ behind xs ys k

numbered_at : {A : Type 0} (f : ℕ → A) (i n k : ℕ) → k < n → get_elem? (map f (from_to i n)) k ≡ core.some (f (i + k))
numbered_at f i zero k inside = absurd (omega (arith, inside))
numbered_at f i (suc n) zero inside = ap (λ j. core.some (f j)) (let e : i ≡ i + 0 = omega arith in e)
numbered_at f i (suc n) (suc k) inside = numbered_at f (i + 1) n k (omega (arith, inside)) ∙ ap (λ j. core.some (f j)) (let e : (i + 1) + k ≡ i + suc k = omega arith in e)

pub index_at : {A : Type 0} (f : ℕ → A) (other : A) (i n k : ℕ) → k < n → slice_index_or (map f (from_to i n)) k other ≡ f (i + k)
index_at f other i zero k inside = absurd (omega (arith, inside))
index_at f other i (suc n) zero inside = ap f (let e : i ≡ i + 0 = omega arith in e)
index_at f other i (suc n) (suc k) inside = index_at f other (i + 1) n k (omega (arith, inside)) ∙ ap f (let e : (i + 1) + k ≡ i + suc k = omega arith in e)

-- ## A link at its home

-- what it took, where it is at home
abbrev took_of : core.Option (core.Option Home) → List ℕ
took_of core.none = []
took_of (core.some core.none) = []
took_of (core.some (core.some home)) = taken_by home

home_took : (l : LinksData) (took : Taken) (k : ℕ) (b : Bool) (t : List ℕ) (next : ℕ) (done : Bool) → core.some (if b then core.none else core.some (link_with l took k)) ≡ core.some (core.some (Link k t next done)) → took k ≡ t
home_took l took k true t next done e = absurd (cc)
home_took l took k false t next done e = ap took_of e

-- what a link at home took is what its number has
pub took_is : (l : LinksData) (p : Plan) (letters : List (Option HomeMessage)) (took : Taken) (k : ℕ) (t : List ℕ) (next : ℕ) (done : Bool) → length letters ≡ p.requests → k < p.links →
    get_elem? (homes_of l p letters took) (link_place p k) ≡ core.some (core.some (Link k t next done)) → took k ≡ t
took_is l p letters took k t next done many inside at =
    let place : p.requests + k ≡ length (map letter_home letters) + k = ap (λ n. n + k) (sym many ∙ sym (length-map letters letter_home)) in
    let here : core.some (link_home l took (0 + k)) ≡ core.some (core.some (Link k t next done)) =
    sym (ap (get_elem? (homes_of l p letters took)) place ∙ behind (map letter_home letters) (map (link_home l took) (from_to 0 p.links)) k ∙ numbered_at (link_home l took) 0 p.links k inside) ∙ at in
    let same : 0 + k ≡ k = omega arith in
    home_took l took k (is_some (holder_of l k)) t next done (ap (λ j. core.some (link_home l took j)) (sym same) ∙ here)

-- and it is what lies at home
pub lies_is : (p : Plan) (homes : List (core.Option Home)) (k : ℕ) (t : List ℕ) (next : ℕ) (done : Bool) → k < p.links → get_elem? homes (link_place p k) ≡ core.some (core.some (Link k t next done)) → slice_index_or (took_at_home p homes) k [] ≡ t
lies_is p homes k t next done inside at =
    index_at (λ j. flat_map taken_by (lies_at homes (link_place p j))) [] 0 p.links k inside
    ∙ ap (λ j. flat_map taken_by (lies_at homes (link_place p j))) (let e : 0 + k ≡ k = omega arith in e)
    ∙ ap (λ (o : core.Option (core.Option Home)). flat_map taken_by (elim o as (λ o. List Home) [ core.none ↦ [] | core.some x ↦ elim x as (λ o. List Home) [ core.none ↦ [] | core.some y ↦ y ∷ [] ] ])) at
    ∙ append-nil t

-- ## What it tells

out_at : (outs : List OutState) (ends : List LinkEnd) (k : ℕ) (e : LinkEnd) → map (λ (o : OutState). o.took) outs ≡ map (λ (e : LinkEnd). e.took) ends → slice_get ends k ≡ Some e → (out : OutState) × (get_elem? outs k ≡ core.some out) × (out.took ≡ e.took)
out_at outs [] k e same at = absurd (cc)
out_at [] (x ∷ ends) k e same at = absurd (cc)
out_at (o ∷ outs) (x ∷ ends) zero e same at = let first : o.took ≡ x.took = cc in let is : x ≡ e = cc in (o, refl, first ∙ ap (λ (y : LinkEnd). y.took) is)
out_at (o ∷ outs) (x ∷ ends) (suc k) e same at = let others : map (λ (o : OutState). o.took) outs ≡ map (λ (e : LinkEnd). e.took) ends = cc in out_at outs ends k e others at

pub told_is : (l : LinksData) (took : Taken) (ends : List LinkEnd) (k : ℕ) (e : LinkEnd) (t : List ℕ) → map (λ (o : OutState). o.took) l.outs ≡ map (λ (e : LinkEnd). e.took) ends → slice_get ends k ≡ Some e → Agrees l took → took k ≡ t → IfSome e.took (λ bytes. bytes ≡ t)
told_is l took ends k e t same at agrees is =
    let out = out_at l.outs ends k e same at in
    subst (λ x. IfSome e.took (λ bytes. bytes ≡ x)) is (subst (λ o. IfSome o (λ bytes. bytes ≡ took k)) out.2 (agrees k out.0 out.1))

-- a link whose writing half tells what it took tells it
pub tells_is : (outs : List OutState) (ends : List LinkEnd) (k : ℕ) (e : LinkEnd) (out : OutState) (t : List ℕ) → map (λ (o : OutState). o.took) outs ≡ map (λ (e : LinkEnd). e.took) ends → slice_get ends k ≡ Some e → get_elem? outs k ≡ core.some out → out.took ≡ Some t → IsSome e.took
tells_is outs ends k e out t same at there told =
    let x = out_at outs ends k e same at in
    subst (λ (o : Option (List ℕ)). IsSome o) (sym (sym x.2 ∙ ap (λ (o : OutState). o.took) (sym (core.some-injective out x.0 (sym there ∙ x.1))) ∙ told)) refl
