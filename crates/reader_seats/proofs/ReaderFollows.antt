-- A reader goes on behind a cut, at a locked id, and behind a take.
use Rattle.std.proofs.Common.{◌≡◌, ℕ, ◌-◌, ◌≤◌, ◌<◌, ◌∷◌, min, nat_lt, Bool, true, false, List, [], length, map, get_or, ◌++◌, Result, Ok, Err, Option, Some, None, refl, sym, ap, subst, ◌∙◌, arith}
use Rattle.std.specs.Result.{OnOk}
use Rattle.std.proofs.lemmas.List.{get_or-map}
use Rattle.std.proofs.lemmas.Bool.Decides.{nat_tests}
use Rattle.brpc_model.specs.Frame as model
use Rattle.prpc_frame.specs.FrameMeaning.{frame_of}
use Rattle.prpc_frame.specs.declared.frame.Frame.{Frame}
use Rattle.sock_words.specs.declared.id_word.IdWord.{IdWord}
use Rattle.corr_core.specs.IdSlotWord.{parts}
use Rattle.id_points.specs.IdsAndAttemptNumbers.{id_of}
use Rattle.seat_programs.specs.Asides.{Taking, Bytes, Nothing, NoMore, AtEnd, Closed, Broken}
use Rattle.seat_programs.specs.ReaderProgram.{LIMIT, slot_in, kept_for}
use Rattle.seat_programs.specs.FoundAndChangedAside.{at_last}
use Rattle.reader_points.specs.declared.cutting.Cut.{Cut}
use Rattle.reader_points.specs.declared.point.Reader.{Reader}
use Rattle.reader_points.specs.declared.point.ReadPoint.{ReadPoint}
use Rattle.reader_points.specs.declared.point.ReadPoint.TheVariants as points
use Rattle.reader_points.specs.declared.point.ReadNext.TheVariants as nexts
use Rattle.reader_points.specs.declared.point.Lost.{Lost}
use Rattle.reader_points.specs.KeptResponses.{IsFirstKept}
use Rattle.reader_points.specs.CutsInHand.{GoesOnBehind, with_cut}
use Rattle.reader_points.specs.ReaderPoints.{Context, NO_FRAME, count_of, room_at, frames_program, frames_behind, point_program, next_program, with_held, with_kept, with_taking, HasInHand, TakesBytes}
use Rattle.reader_seats.specs.declared.hand.Hand.{Hand}
use Rattle.reader_seats.specs.ResponseInHand.{frame_in, is_fresh, hand_of}
use Rattle.sock_message.specs.Asked.{nothing_asked}
use Rattle.reader_seats.specs.ReaderState.{ReaderData, around, reader_program}
use Rattle.sock_words.specs.PackedWords.{id_slot}

-- ## Behind a cut

-- a reader behind a cut, with what was left of its bytes
abbrev pub cut_data : ReaderData → List ℕ → Hand → ReadPoint → ReaderData
cut_data old held hand point = record { point = point; held = held; kept = old.kept; frame = frame_in old.kept hand; fresh = is_fresh hand; asked = nothing_asked }

abbrev without_call : List ℕ → ReaderData → Context
without_call calls old = let a = around calls old in record a { asked = nothing_asked }

module _ (calls : List ℕ) (old : ReaderData) (held : List ℕ) (point : ReadPoint) where
  same_cut : (frame : Option Frame) → with_held held (with_cut frame (without_call calls old)) ≡ around calls (cut_data old held (hand_of frame) point)
  same_cut None = refl
  same_cut (Some frame) = refl

pub cut_goes : (calls : List ℕ) (r : Reader) (ids : ℕ) (old : ReaderData) (held : List ℕ) (cut : Cut) → length calls ≡ ids → GoesOnBehind r ids old.held held cut →
    reader_program calls (cut_data old held (hand_of cut.frame) cut.point) ≡ frames_behind (around calls old) r old.kept
cut_goes calls r ids old held cut e g = sym (g.program (without_call calls old) e ∙ ap (λ a. point_program a cut.point) (same_cut calls old held cut.point cut.frame))

pub cut_hand : (calls : List ℕ) (r : Reader) (ids : ℕ) (old : ReaderData) (held : List ℕ) (cut : Cut) → GoesOnBehind r ids old.held held cut →
    HasInHand (around calls (cut_data old held (hand_of cut.frame) cut.point)) cut.point
cut_hand calls r ids old held cut g = subst (λ a. HasInHand a cut.point) (same_cut calls old held cut.point cut.frame) (g.hand (without_call calls old))

-- ## Kept responses

pub kept_at : (kept : List Frame) (i : ℕ) (x : Frame) → i < length kept → get_or kept i x ≡ x → get_or (map frame_of kept) i NO_FRAME ≡ frame_of x
kept_at kept i x within is = get_or-map frame_of kept i x NO_FRAME within ∙ ap frame_of is

-- ## Behind a take

-- an ending run makes no difference to what is in hand
pub at_last_same : (ending : Bool) (t : Taking) (a : Context) → with_taking (at_last ending t) a ≡ with_taking t a
at_last_same false t a = refl
at_last_same true (Bytes bytes) a = refl
at_last_same true Nothing a = refl
at_last_same true NoMore a = refl
at_last_same true AtEnd a = refl
at_last_same true Closed a = refl
at_last_same true Broken a = refl

-- ## Takes

room_some : (n : ℕ) → nat_lt n LIMIT ≡ true → (0 < min 4096 (LIMIT - n)) × (min 4096 (LIMIT - n) ≤ 4096)
room_some n e = let below : n < LIMIT = grind (arith, nat_tests, e) in (omega (arith, below), omega arith)

-- some bytes are taken at once, and no more than that
pub some_room : (a : Context) (point : ReadPoint) → HasInHand a point → TakesBytes point → (0 < room_at point) × (room_at point ≤ 4096)
some_room a points.Rest hand takes = absurd takes
some_room a (points.Open link o) hand takes = absurd takes
some_room a (points.Take r) hand takes = room_some (count_of r.total) hand.1
some_room a (points.Lock r l at) hand takes = absurd takes
some_room a (points.Answer b id at) hand takes = absurd takes
some_room a (points.Close c at) hand takes = absurd takes
some_room a (points.Load c o) hand takes = absurd takes
some_room a (points.Post l at) hand takes = absurd takes
some_room a (points.Fail l at) hand takes = absurd takes
some_room a (points.Discard link total) hand takes = room_some (count_of total) hand

-- ## A kept response ends the call of a locked id

abbrev pub kept_data : ReaderData → ℕ → ReadPoint → ReaderData
kept_data old i point = record { point = point; held = old.held; kept = old.kept; frame = get_or old.kept i NO_FRAME; fresh = false; asked = old.asked }

-- at this point it does
abbrev pub EndsKept : Lost → ReadPoint → Type 0
EndsKept lost point = (a : Context) (word : IdWord) (f : model.Frame) (fs : List model.Frame) → slot_in f ≡ id_slot (id_of lost.id) → kept_for (id_of lost.id) (parts word.0).range a.kept ≡ f ∷ fs
    → point_program (with_kept f a) point ≡ next_program a (nexts.Locked lost word)

pub kept_goes : (calls : List ℕ) (old : ReaderData) (kept : List Frame) (i range : ℕ) (lost : Lost) (word : IdWord) (point : ReadPoint) → old.kept ≡ map frame_of kept → range ≡ (parts word.0).range → IsFirstKept (id_of lost.id) range kept i → EndsKept lost point →
    reader_program calls (kept_data old i point) ≡ next_program (around calls old) (nexts.Locked lost word)
kept_goes calls old kept i range lost word point same is_range first ends =
    let f = frame_of first.frame in
    let a = around calls old in
    let at : get_or old.kept i NO_FRAME ≡ f = ap (λ k. get_or k i NO_FRAME) same ∙ kept_at kept i first.frame first.within first.is in
    let e : kept_for (id_of lost.id) (parts word.0).range old.kept ≡ f ∷ first.others = ap (λ k. kept_for (id_of lost.id) (parts word.0).range k) same ∙ ap (λ n. kept_for (id_of lost.id) n (map frame_of kept)) (sym is_range) ∙ first.first in
    ap (λ g. point_program (with_kept g a) point) at ∙ ends a word f first.others first.slot e

-- ## Behind a step

-- what holds on success
pub on_ok : {T E : Type 0} (r : Result T E) {P Q : Type 0} → (P → Q) → OnOk r P → OnOk r Q
on_ok (Ok x) f p = f p
on_ok (Err e) f p = tt

-- the response in hand was kept
pub early_next : (calls : List ℕ) (old mid new : ReaderData) (r : Reader) → mid.held ≡ old.held → mid.kept ≡ old.kept ++ old.frame ∷ [] → reader_program calls new ≡ frames_behind (around calls mid) r mid.kept →
    reader_program calls new ≡ next_program (around calls old) (nexts.Early r)
early_next calls old mid new r held kept e =
    e ∙ ap (λ h. frames_program (around calls old) r h mid.kept) held ∙ ap (λ k. frames_program (around calls old) r old.held k) kept
