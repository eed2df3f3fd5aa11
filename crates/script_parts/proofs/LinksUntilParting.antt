-- The links of a run as they are opened, and as they are given back; and what they took.
use Rattle.std.proofs.Common.{◌≡◌, ℕ, zero, suc, ◌+◌, ◌<◌, ◌≤◌, false, List, [], ◌∷◌, ◌++◌, length, map, take, get_or, Option, Some, None, IfSome, refl, sym, ap, ◌∙◌, subst, arith}
use Rattle.std.proofs.lemmas.List.{map-append, length-map, take_more, take_all, length-take-le}
use Rattle.std.proofs.lemmas.Option.{none-some, same_Some, slice_get_within}
use Rattle.callless_fits.specs.sock_deeds.proofs.ListPlaces.{to_slice}
use Rattle.std.specs.List.{AllByRecursion}
use Rattle.std.specs.Option.{ForSome}
use mathlib.Core.Option.{some, some-injective, some-ne-none}
use lib.ListN.{get_elem?}
use Rattle.atomic_table.specs.declared.shared.Seat.{Seat}
use Rattle.brpc_model.specs.ReturnedLink.{LinkEnd}
use Rattle.sock_io.specs.declared.link.Ends.{Ends}
use Rattle.sock_io.specs.LinkHalves.{OutState, InState, end_of}
use Rattle.sock_words.specs.declared.plain.Plan.{Plan}
use Rattle.sock_words.specs.declared.place_word.PlaceWord.{PlaceWord}
use Rattle.sock_words.specs.declared.vref.Vref.{Vref}
use Rattle.sock_model.specs.declared.view.View.{View}
use Rattle.call_run.specs.sock_table.specs.ClosedSocketTable.{ClosedBy}
use Rattle.call_run.specs.sock_open.specs.SocketTableOpening.{AreFresh}
use Rattle.call_run.specs.CrewOfRun.{AreBack}
use Rattle.script_links.specs.LinksGivenBack.{AreUntouched, AreNumbered}
use Rattle.call_run.specs.link_crew.specs.declared.beside.Rest.{Rest}
use Rattle.script_parts.specs.HalvesApartAndTogether.{rest_of, joined, AreTaken}

for_if : {T : Type 0} (P : T → Type 0) (o : Option T) → IfSome o P → ForSome o P
for_if P None h x e = absurd (none-some x e)
for_if P (Some y) h x e = subst P (same_Some y x e) h

module _ {O I P : Type 0} (out_state : O → OutState) (in_state : I → InState) where
  abbrev pub end_at : Ends O I P → LinkEnd
  end_at e = end_of (out_state e.out) (in_state e.inn)

  -- a reading half that gave nothing
  abbrev pub IsSilent : Rest I P → Type 0
  IsSilent r = ((in_state r.inn).gave ≡ 0) × IfSome (in_state r.inn).gave_bytes (λ bytes. bytes ≡ [])

  pub are_silent : (n : ℕ) (xs : List (Ends O I P)) → AreUntouched n (map end_at xs) → AllByRecursion IsSilent (map rest_of xs)
  are_silent n [] h = tt
  are_silent n (x ∷ xs) h = ((h.0.gave_count, h.0.gave), are_silent (n + 1) xs h.1)

  -- ## As they are opened

  fresh_at : (n : ℕ) (xs : List (Ends O I P)) → AreUntouched n (map end_at xs) → AllByRecursion (λ (e : Ends O I P). (out_state e.out).finished ≡ false) xs → (k : ℕ) (o : O) → get_elem? (map (λ (e : Ends O I P). e.out) xs) k ≡ some o
      → ((out_state o).link ≡ n + k) × ((out_state o).finished ≡ false) × ForSome (out_state o).took (λ bytes. bytes ≡ [])
  fresh_at n [] h u k o at = absurd (some-ne-none o (sym at))
  fresh_at n (x ∷ xs) h u zero o at =
      subst (λ (y : O). ((out_state y).link ≡ n + 0) × ((out_state y).finished ≡ false) × ForSome (out_state y).took (λ bytes. bytes ≡ [])) (some-injective x.out o at)
      (h.0.link ∙ omega arith, u.0, for_if (λ bytes. bytes ≡ []) (out_state x.out).took h.0.took)
  fresh_at n (x ∷ xs) h u (suc k) o at = let r = fresh_at (n + 1) xs h.1 u.1 k o at in (r.0 ∙ omega arith, r.1, r.2)

  pub are_fresh : (p : Plan) (xs : List (Ends O I P)) → AreUntouched 0 (map end_at xs) → AllByRecursion (λ (e : Ends O I P). (out_state e.out).finished ≡ false) xs → length xs ≡ p.links → AreFresh out_state p (map (λ (e : Ends O I P). e.out) xs)
  are_fresh p xs h u long = record {
    count = length-map xs (λ (e : Ends O I P). e.out) ∙ long;
    each = (λ k o at. let r = fresh_at 0 xs h u k o at in (r.0 ∙ omega arith, r.1, r.2));
  }

  -- ## As they are given back

  joined_long : (outs : List O) (rs : List (Rest I P)) → length outs ≡ length rs → length (joined outs rs) ≡ length outs
  joined_long [] rs e = refl
  joined_long (o ∷ os) [] e = absurd (omega arith)
  joined_long (o ∷ os) (r ∷ rs) e = (let n = joined_long os rs (omega arith) in omega arith)

  joined_numbered : (n : ℕ) (outs : List O) (rs : List (Rest I P)) → ((k : ℕ) (o : O) → get_elem? outs k ≡ some o → (out_state o).link ≡ n + k) → AreNumbered n (map end_at (joined outs rs))
  joined_numbered n [] rs h = tt
  joined_numbered n (o ∷ os) [] h = tt
  joined_numbered n (o ∷ os) (r ∷ rs) h = (h 0 o refl ∙ omega arith, joined_numbered (n + 1) os rs (λ k x e. h (suc k) x e ∙ omega arith))

own_links : {O : Type 0} (state : O → OutState) (p : Plan) (outs : List O) → AreBack state p outs → (k : ℕ) (o : O) → get_elem? outs k ≡ some o → (state o).link ≡ 0 + k
own_links state p outs back k o at =
    let inside = slice_get_within outs k o (to_slice outs k o at) in let count = back.count in let b = back.each k (omega arith) in
    ap (λ x. (state x).link) (some-injective o b.0 (sym at ∙ b.1)) ∙ (b.2 ∙ omega arith)

pub closed_back : {O S : Type 0} (state : O → OutState) (p : Plan) (seats : List (Seat S View)) (places : List PlaceWord) (vrefs : List Vref) (outs : List O) → ClosedBy state p seats places vrefs outs → AreBack state p outs
closed_back state p seats places vrefs outs h = record { count = h.count; each = (λ k low. let b = h.outs_back k low in (b.out, b.there, b.own)) }

module _ {O I P : Type 0} (out_state : O → OutState) (in_state : I → InState) (p : Plan) (outs : List O) (rests : List (Rest I P)) (back : List (Ends O I P)) (has : AreBack out_state p outs) (is : back ≡ joined outs rests) where
  pub give_numbered : AreNumbered 0 (map (end_at out_state in_state) back)
  give_numbered = subst (λ l. AreNumbered 0 (map (end_at out_state in_state) l)) (sym is) (joined_numbered out_state in_state 0 outs rests (own_links out_state p outs has))

  pub give_as_many : (ends : List (Ends O I P)) → length ends ≡ p.links → length rests ≡ length ends → length back ≡ length ends
  give_as_many ends all many =
      let n = has.count in ap length is ∙ (joined_long out_state in_state outs rests (omega arith) ∙ omega arith)

-- ## What the links took

module _ {O T : Type 0} (state : O → OutState) (view : T → List ℕ) where
  taken_push : (outs : List O) (took : List (List ℕ)) (o : O) (bytes : List ℕ) → length took ≡ length outs → AreTaken state outs took → IfSome (state o).took (λ told. bytes ≡ told) → AreTaken state (outs ++ o ∷ []) (took ++ bytes ∷ [])
  taken_push [] [] o bytes many h told zero x at = subst (λ (y : O). IfSome (state y).took (λ l. bytes ≡ l)) (same_Some o x at) told
  taken_push [] [] o bytes many h told (suc k) x at = absurd (none-some x at)
  taken_push [] (b ∷ bs) o bytes many h told k x at = absurd (omega arith)
  taken_push (y ∷ ys) [] o bytes many h told k x at = absurd (omega arith)
  taken_push (y ∷ ys) (b ∷ bs) o bytes many h told zero x at = h zero x at
  taken_push (y ∷ ys) (b ∷ bs) o bytes many h told (suc k) x at = taken_push ys bs o bytes (omega arith) (λ j z a. h (suc j) z a) told k x at

  pub taken_more : (outs : List O) (i : ℕ) (o : O) (took more : List T) (t : T) → i < length outs → o ≡ get_or outs i o → length took ≡ i → more ≡ took ++ t ∷ [] → IfSome (state o).took (λ told. view t ≡ told) →
      AreTaken state (take i outs) (map view took) → AreTaken state (take (i + 1) outs) (map view more)
  taken_more outs i o took more t inside at many push told h =
      let links : take (i + 1) outs ≡ take i outs ++ o ∷ [] = take_more outs i o inside ∙ ap (λ y. take i outs ++ y ∷ []) (sym at) in
      let bytes : map view more ≡ map view took ++ view t ∷ [] = ap (map view) push ∙ map-append view took (t ∷ []) in
      let as_many : length (map view took) ≡ length (take i outs) = length-map took view ∙ (many ∙ sym (length-take-le i outs (omega (arith, inside)))) in
      subst (λ es. AreTaken state es (map view more)) (sym links) (subst (AreTaken state (take i outs ++ o ∷ [])) (sym bytes) (taken_push (take i outs) (map view took) o (view t) as_many h told))

  pub taken_all : (outs : List O) (i : ℕ) (took : List T) → length outs ≤ i → AreTaken state (take i outs) (map view took) → AreTaken state outs (map view took)
  taken_all outs i took h told = subst (λ es. AreTaken state es (map view took)) (take_all i outs h) told
