-- The end of each call that began is told.
use Rattle.std.proofs.Common.{◌≡◌, ◌≢◌, ℕ, zero, suc, ◌+◌, ◌*◌, ◌<◌, ◌≤◌, Bool, true, false, cond, List, [], ◌∷◌, ◌++◌, flat_map, map, Some, refl, sym, ap, ◌∙◌, subst, arith}
use Rattle.std.specs.Prelude.{slice_get}
use Rattle.std.specs.List.{AllByRecursion}
use Rattle.std.proofs.lemmas.Nat.{div-add-mod'}
use mathlib.Core.Logic.{dite}
use mathlib.Core.Option.{some, some-injective, some-ne-none}
use native.Mathlib.Decide.{ℕ_discrete}
use lib.ListN.{get_elem?}
use Rattle.corr_core.specs.IdSlotLaw.{only, pair, is_made}
use Rattle.corr_core.specs.declared.marks.Kept.{Kept}
use Rattle.corr_core.specs.declared.marks.Note.{Note}
use Rattle.corr_core.specs.declared.marks.Note.TheVariants.{Made, Locker}
use Rattle.corr_core.specs.declared.marks.Noted.{Noted}
use Rattle.corr_core.specs.declared.marks.Plan.{Plan}
use Rattle.corr_core.specs.declared.marks.View.{View}
use Rattle.corr_core.proofs.NoteSums.{only-else, only_le, pair-at, pair-else, pair-else_first, pair_le, total_some, total_mono}
use Rattle.id_rule.specs.LawfulIdTable.{call_index, notes_of, is_stored}
use Rattle.sock_message.specs.Asked.{Asked}
use Rattle.corr_id.specs.ClosingIdLists.{Closing}
use Rattle.corr_id.specs.Ruled.{is_place}
use Rattle.corr_id.proofs.IdSeatSplits.{notes_append, total_append}
use Rattle.call_deeds.specs.Below.RpcClient.Told.{Told}
use Rattle.call_deeds.specs.Below.RpcReader.ReaderBooks.{Books}
use Rattle.call_deeds.specs.Below.RpcReader.CallsLeftAfterReading.{RestEnded}
use Rattle.call_deeds.specs.call_places.proofs.NoteWeights.{term}
use Rattle.call_told.specs.ToldOnce.{ends_of, told_ends}
use Rattle.call_told.specs.Least.{is_made_for, is_locked_for, HasBegun, IsEndTold, ToldLeast}
use Rattle.call_told.proofs.Balance.{noted_ends, AreBalanced}
use Rattle.call_told.proofs.ToldCallEnds.{IsEndOf, AreEnds}
use Rattle.call_told.proofs.GrowingCallNotes.{own_at}
use Rattle.call_told.proofs.ListElementsByPlace.{all_at}
use Rattle.call_told.proofs.ToldOnce.{told_noted}
use Rattle.call_told.proofs.RestingCallsEnded.{is_word, IsSeen, rest_seen, seen_ended}
use Rattle.call_told.proofs.Tallies.{Tally, rest_accounts, version_low}
use Rattle.sock_words.specs.PackedWords.{id_slot, id_first}
use Rattle.sock_words.specs.Totals.{total}

-- ## One of a list

-- what one seat counts is no more than what all count together
pub all_notes : (slot : ℕ) (g : Note Asked → ℕ) (vs : List (View Asked)) (k : ℕ) (v : View Asked) → get_elem? vs k ≡ some v → total g (notes_of slot v.notes) ≤ total g (notes_of slot (flat_map (λ (w : View Asked). w.notes) vs))
all_notes slot g [] k v e = absurd (some-ne-none v (sym e))
all_notes slot g (w ∷ vs) zero v e =
    let a = ap (λ (y : View Asked). total g (notes_of slot y.notes)) (some-injective w v e) in
    let b = ap (total g) (notes_append slot w.notes (flat_map (λ (y : View Asked). y.notes) vs)) in omega (arith, total_append g (notes_of slot w.notes) (notes_of slot (flat_map (λ (y : View Asked). y.notes) vs)))
all_notes slot g (w ∷ vs) (suc k) v e =
    let a : total g (notes_of slot v.notes) ≤ total g (notes_of slot (flat_map (λ (y : View Asked). y.notes) vs)) = all_notes slot g vs k v e in
    let b = ap (total g) (notes_append slot w.notes (flat_map (λ (y : View Asked). y.notes) vs)) in omega (arith, total_append g (notes_of slot w.notes) (notes_of slot (flat_map (λ (y : View Asked). y.notes) vs)))

pub all_kept : (g : Kept → ℕ) (vs : List (View Asked)) → total g (flat_map (λ (w : View Asked). w.kept) vs) ≡ total (λ (w : View Asked). total g w.kept) vs
all_kept g [] = refl
all_kept g (w ∷ vs) = let a = all_kept g vs in omega (arith, total_append g w.kept (flat_map (λ (y : View Asked). y.kept) vs))

-- ## Two that exclude each other

pub apart_sum : {A : Type 0} (f g h : A → ℕ) → ((x : A) → f x + g x ≤ h x) → (xs : List A) → total f xs + total g xs ≤ total h xs
apart_sum f g h less [] = omega arith
apart_sum f g h less (x ∷ xs) = let a = less x in let b = apart_sum f g h less xs in omega arith

-- what was made is made for one operation, and was made once
pair_apart : (f a b : ℕ) → a ≢ b → (g c : ℕ) → pair f a g c + pair f b g c ≤ only f g
pair_apart f a b n g c = dite (ℕ_discrete c a)
    (λ e. let x = pair_le f a g c in let y = pair-else f b g c (λ (k : c ≡ b). n (sym e ∙ k)) in omega arith)
    (λ d. let x = pair-else f a g c d in let y = pair_le f b g c in omega arith)

made_apart : (f a b : ℕ) → a ≢ b → (n : Note Asked) → is_made_for f a n + is_made_for f b n ≤ is_made f n
made_apart f a b n (Made g r c) = pair_apart f a b n g c.operation
made_apart f a b n _ = omega arith

made_is : (f a : ℕ) (n : Note Asked) → is_made_for f a n ≤ is_made f n
made_is f a (Made g r c) = pair_le f a g c.operation
made_is f a _ = omega arith

-- a seat stored one word at a place
owned_apart : (x a b : ℕ) → a ≢ b → (own : Bool) (place word : ℕ) → cond own (pair x a place word) 0 + cond own (pair x b place word) 0 ≤ cond own (only x place) 0
owned_apart x a b n true place word = pair_apart x a b n place word
owned_apart x a b n false place word = omega arith

pub stored_apart : (x a b : ℕ) → a ≢ b → (k : Kept) → is_stored x a k + is_stored x b k ≤ own_at x k
stored_apart x a b n k = owned_apart x a b n k.own k.place k.word

-- a word that is this one at this place
pub word_is : (x word : ℕ) (k : Kept) → 0 < is_word x word k → (k.place ≡ x) × (k.word ≡ word)
word_is x word k h = dite (ℕ_discrete k.place x)
    (λ e. dite (ℕ_discrete k.word word) (λ f. (e, f)) (λ n. absurd (let a = pair-else x word k.place k.word n in omega arith)))
    (λ n. absurd (let a = pair-else_first x word k.place k.word n in omega arith))

-- the lock of a range with a call
pub lock_of : (f o : ℕ) (n : Note Asked) → 0 < is_locked_for f o n → (call : Asked) × (n ≡ Locker f call) × (call.operation ≡ o)
lock_of f o (Locker g c) h = dite (ℕ_discrete g f)
    (λ e. dite (ℕ_discrete c.operation o) (λ d. (c, ap (λ (y : ℕ). Locker y c) e, d)) (λ n. absurd (let a = pair-else f o g c.operation n in omega arith)))
    (λ n. absurd (let a = pair-else_first f o g c.operation n in omega arith))
lock_of f o _ h = absurd (omega arith)

only_is : (a b : ℕ) → 0 < only a b → b ≡ a
only_is a b h = dite (ℕ_discrete b a) (λ e. e) (λ n. absurd (let z = only-else a b n in omega arith))

-- over the lists of a closed table
module _ (q : Plan) (notes : List (Noted Asked)) (kept : List Kept) (words : List ℕ) (closing : Closing q notes kept words) where
  -- whoever locked the id of a call had that call
  locks_its : (slot f o o' : ℕ) → slot < q.slots → 0 < total (is_made_for f o) (notes_of slot notes) → 0 < total (is_locked_for f o') (notes_of slot notes) → o' ≡ o
  locks_its slot f o o' inside made locked = dite (ℕ_discrete o' o) (λ e. e)
      (λ n. absurd (let once = closing.made_once slot f inside in let both = apart_sum (is_made_for f o) (is_made_for f o') (is_made f) (made_apart f o o' (λ e. n (sym e))) (notes_of slot notes) in let other = made' in omega arith))
    where
      made' : 0 < total (is_made_for f o') (notes_of slot notes)
      made' =
          let at = total_some (is_locked_for f o') (notes_of slot notes) locked in let is = lock_of f o' at.1 at.3 in
          let by = closing.locked_made slot f at.0 is.0 inside (at.2 ∙ ap some is.1) in
          let a = term (is_made_for f o') (notes_of slot notes) by.1 (Made f by.0 is.0) by.2 in let b = pair-at f o' f is.0.operation refl is.2 in omega arith

  -- one id is noted for an operation, if one id is stored for it
  pub alone : (x id found : ℕ) → total (own_at x) kept ≤ 1 → 0 < total (is_stored x id) kept → 0 < total (is_word x found) kept → found ≡ id
  alone x id found few stored word = dite (ℕ_discrete found id) (λ e. e)
      (λ n. absurd (let both = apart_sum (is_stored x id) (is_stored x found) (own_at x) (stored_apart x id found (λ e. n (sym e))) kept in let other = stored' in omega arith))
    where
      stored' : 0 < total (is_stored x found) kept
      stored' =
          let at = total_some (is_word x found) kept word in let is = word_is x found at.1 at.3 in
          let h = closing.found_stored at.1 at.0 at.2 in subst (λ (y : ℕ). 0 < total (is_stored x y) kept) is.1 (subst (λ (y : ℕ). 0 < total (is_stored y at.1.word) kept) is.0 h)

  -- an end that is told of the call is told with its operation's number
  pub end_number : (operation id : ℕ) (v : View Asked) (x : Told) → ((slot : ℕ) (g : Note Asked → ℕ) → total g (notes_of slot v.notes) ≤ total g (notes_of slot notes)) → id_slot id < q.slots → 0 < total (is_made_for (id_first id) operation) (notes_of (id_slot id) notes)
      → IsEndOf v x → 0 < ends_of id x.outcome → x.number ≡ operation
  end_number operation id v x within inside made e ends =
      let same : e.slot * 4294967296 + e.first ≡ id = only_is id (e.slot * 4294967296 + e.first) (let a = e.is_end id in omega arith) in
      let parts' : id_slot id * 4294967296 + id_first id ≡ id = div-add-mod' id 4294967296 in let low = version_low id in let low' = e.low in
      let slot : e.slot ≡ id_slot id = omega arith in let first : e.first ≡ id_first id = omega arith in
      let locked : 0 < total (is_locked_for (id_first id) x.number) (notes_of (id_slot id) notes) = (let a = within e.slot (is_locked_for e.first x.number) in let b = e.locked in let c : total (is_locked_for e.first x.number) (notes_of e.slot notes) ≡ total (is_locked_for (id_first id) x.number) (notes_of (id_slot id) notes) = λ i. total (is_locked_for (first i) x.number) (notes_of (slot i) notes) in omega arith) in
      locks_its (id_slot id) (id_first id) operation x.number inside made locked

-- ## All that tell

-- what each of these tells are ends of calls that its seat had locked
abbrev pub TellEnds : List (List Told) → List (View Asked) → Type 0
TellEnds [] [] = Unit {0}
TellEnds (t ∷ ts) (v ∷ vs) = AreEnds v t × TellEnds ts vs
TellEnds [] (v ∷ vs) = ⊥
TellEnds (t ∷ ts) [] = ⊥

pub tell_each : {X : Type 0} (told : X → List Told) (view : X → View Asked) (xs : List X) → AllByRecursion (λ x. AreEnds (view x) (told x)) xs → TellEnds (map told xs) (map view xs)
tell_each told view [] a = tt
tell_each told view (x ∷ xs) a = (a.0, tell_each told view xs a.1)

pub tell_both : (ts us : List (List Told)) (vs ws : List (View Asked)) → TellEnds ts vs → TellEnds us ws → TellEnds (ts ++ us) (vs ++ ws)
tell_both [] us [] ws a b = b
tell_both (t ∷ ts) us (v ∷ vs) ws a b = (a.0, tell_both ts us vs ws a.1 b)
tell_both [] us (v ∷ vs) ws a b = absurd a
tell_both (t ∷ ts) us [] ws a b = absurd a

-- a seat whose notes are among these
abbrev IsWithin : List (Noted Asked) → View Asked → Type 0
IsWithin notes v = (slot : ℕ) (g : Note Asked → ℕ) → total g (notes_of slot v.notes) ≤ total g (notes_of slot notes)

abbrev TellsWithin : List (Noted Asked) → List Told → Type 0
TellsWithin notes told = (v : View Asked) × AreEnds v told × IsWithin notes v

each_teller : (notes : List (Noted Asked)) (tellers : List (List Told)) (seats : List (View Asked)) → TellEnds tellers seats → ((k : ℕ) (v : View Asked) → get_elem? seats k ≡ some v → IsWithin notes v) → (last : List Told) → TellsWithin notes last
    → (k : ℕ) (told : List Told) → get_elem? (tellers ++ last ∷ []) k ≡ some told → TellsWithin notes told
each_teller notes [] [] e w last l zero told at = subst (TellsWithin notes) (some-injective last told at) l
each_teller notes [] [] e w last l (suc k) told at = absurd (some-ne-none told (sym at))
each_teller notes (t ∷ ts) (v ∷ vs) e w last l zero told at = subst (TellsWithin notes) (some-injective t told at) (v, e.0, w 0 v refl)
each_teller notes (t ∷ ts) (v ∷ vs) e w last l (suc k) told at = each_teller notes ts vs e.1 (λ j u h. w (suc j) u h) last l k told at
each_teller notes [] (v ∷ vs) e w last l k told at = absurd e
each_teller notes (t ∷ ts) [] e w last l k told at = absurd e

place_of : (x id : ℕ) (k : Kept) → is_stored x id k ≤ is_place x k
place_of x id k = owned k.own k.place k.word
  where
    owned : (own : Bool) (place word : ℕ) → cond own (pair x id place word) 0 ≤ only x place
    owned true place word = pair_le x id place word
    owned false place word = omega arith

module _ (q : Plan) (calls : List ℕ) (code : ℕ) where
  -- Each that told of calls told what its seat noted. A seat that has what all of them noted and keep in mind ended what was left of these calls, and the table was closed
  pub record AllEnded (ended : List (List Told)) (seats : List (View Asked)) (b b' : Books) (words : List ℕ) : Type 0 where
    pub balanced : AreBalanced ended seats
    pub tell : TellEnds ended seats
    pub notes : b.view.notes ≡ flat_map (λ (v : View Asked). v.notes) seats
    pub kept : b.view.kept ≡ flat_map (λ (v : View Asked). v.kept) seats
    pub none_told : b.told ≡ []
    pub rest : RestEnded q code calls b b'
    pub calm : b'.starved ≡ false
    pub closing : Closing q b'.view.notes b'.view.kept words

  module _ (ended : List (List Told)) (seats : List (View Asked)) (b b' : Books) (words : List ℕ) (all : AllEnded ended seats b b' words) where
    whole : Tally b b'
    whole = rest_accounts code q calls b b' all.rest

    abbrev tellers : List (List Told)
    tellers = ended ++ b'.told ∷ []

    within : (k : ℕ) (v : View Asked) → get_elem? seats k ≡ some v → IsWithin b'.view.notes v
    within k v at slot g =
        let a = all_notes slot g seats k v at in let e = ap (λ (l : List (Noted Asked)). total g (notes_of slot l)) all.notes in let c = (whole.grows 0).notes slot g in omega arith

    told_by : (k : ℕ) (told : List Told) → get_elem? tellers k ≡ some told → TellsWithin b'.view.notes told
    told_by k told at = each_teller b'.view.notes ended seats all.tell within b'.told
        (b'.view, whole.ends (subst (AreEnds b.view) (sym all.none_told) tt), (λ slot g. omega arith)) k told at

    -- a call that a client began
    module _ (k : ℕ) (v : View Asked) (operation id : ℕ) (at : get_elem? seats k ≡ some v) (begun : HasBegun q operation id v) where
      abbrev place : ℕ
      place = call_index q operation

      made : 0 < total (is_made_for (id_first id) operation) (notes_of (id_slot id) b.view.notes)
      made = let a = all_notes (id_slot id) (is_made_for (id_first id) operation) seats k v at in let c = begun.made in
          let e = ap (λ (l : List (Noted Asked)). total (is_made_for (id_first id) operation) (notes_of (id_slot id) l)) all.notes in omega arith

      known : 0 < total (is_made (id_first id)) (notes_of (id_slot id) b.view.notes)
      known = let a = total_mono (is_made_for (id_first id) operation) (is_made (id_first id)) (made_is (id_first id) operation) (notes_of (id_slot id) b.view.notes) in let c = made in omega arith

      stored : 0 < total (is_stored place id) b.view.kept
      stored = let a = term (λ (w : View Asked). total (is_stored place id) w.kept) seats k v at in let c = begun.stored in
          let d = all_kept (is_stored place id) seats in let e = ap (total (is_stored place id)) all.kept in omega arith

      noted : 0 < total (is_place place) b.view.kept
      noted = let a = total_mono (is_stored place id) (is_place place) (place_of place id) b.view.kept in let c = stored in omega arith

      -- one id at most was stored for the operation, over all seats
      module _ (few : total (λ (w : View Asked). total (own_at place) w.kept) seats ≤ 1) (j : ℕ) (listed : slice_get calls j ≡ Some operation) where
        seen : IsSeen q code operation id begun.inside b'
        seen = rest_seen q code operation id begun.inside calls j b b' listed known noted all.rest

        only_one : total (own_at place) b'.view.kept ≤ 1
        only_one = let a = (whole.grows place).own in let c = ap (total (own_at place)) all.kept in let d = all_kept (own_at place) seats in omega arith

        over : 0 < noted_ends (id_slot id) (id_first id) b'.view.notes
        over = seen_ended q code operation id begun.inside b' words (let a = (whole.grows place).notes (id_slot id) (is_made (id_first id)) in let c = known in omega arith) seen
            (λ found word. alone q b'.view.notes b'.view.kept words all.closing place id found only_one (let a = (whole.grows place).kept (is_stored place id) in let c = stored in omega arith) word) all.closing

        told_of_it : 0 < total (told_ends id) tellers
        told_of_it =
            let is : id_slot id * 4294967296 + id_first id ≡ id = div-add-mod' id 4294967296 in
            let a = told_noted q calls code ended seats b b' all.balanced all.notes all.none_told all.rest all.calm (id_slot id) (id_first id) (version_low id) in let c = over in
            subst (λ (x : ℕ). 0 < total (told_ends x) tellers) is (omega arith)

        -- its end is told, once at least, with its operation's number
        pub told_least : (1 ≤ total (told_ends id) tellers) × IsEndTold operation id tellers
        told_least =
            let h = told_of_it in let t = total_some (told_ends id) tellers h in let x = total_some (λ (y : Told). ends_of id y.outcome) t.1 t.3 in
            let w = told_by t.0 t.1 t.2 in let e = all_at (IsEndOf w.0) t.1 x.0 x.1 w.1 x.2 in (
              omega arith,
              record {
                its = record {
                  teller = t.0;
                  place = x.0;
                  told = t.1;
                  one = x.1;
                  by = t.2;
                  at = x.2;
                  number = end_number q b'.view.notes b'.view.kept words all.closing operation id w.0 x.1 w.2 begun.inside (let a = (whole.grows place).notes (id_slot id) (is_made_for (id_first id) operation) in let c = made in omega arith) e x.3;
                };
                is_end = (let a = e.is_end id in let c = only_le id (e.slot * 4294967296 + e.first) in let d = x.3 in omega arith);
              },
            )

    -- so of all that began, if they are among the calls that were asked for, and no two ids were stored for one of them
    pub told_all : ((operation : ℕ) → total (λ (w : View Asked). total (own_at (call_index q operation)) w.kept) seats ≤ 1) → ((k : ℕ) (v : View Asked) (operation id : ℕ) → get_elem? seats k ≡ some v → HasBegun q operation id v → (j : ℕ) × (slice_get calls j ≡ Some operation)) → ToldLeast q seats tellers
    told_all few listed k v operation id at begun = let l = listed k v operation id at begun in told_least k v operation id at begun (few operation) l.0 l.1
