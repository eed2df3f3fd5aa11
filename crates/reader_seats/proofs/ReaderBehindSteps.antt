-- A reader goes on behind a step, as it is seen from outside.
use Rattle.std.proofs.Common.{◌≡◌, ℕ, ◌∷◌, ◌++◌, Bool, List, [], Result, Option, sym, ap, subst, ◌∙◌}
use Rattle.std.specs.Result.{OnOk}
use Rattle.brpc_model.specs.Frame.{NoneYet, judged}
use Rattle.sock_words.specs.declared.outcome.Outcome.{Outcome}
use Rattle.seat_programs.specs.Asides.{Taking}
use Rattle.seat_programs.specs.FoundAndChangedAside.{at_last}
use Rattle.call_points.specs.AsideCodeSteps.{after_word}
use Rattle.reader_points.specs.declared.point.ByteCount.{ByteCount}
use Rattle.reader_points.specs.declared.point.Reader.{Reader}
use Rattle.reader_points.specs.declared.point.ReadPoint.{ReadPoint}
use Rattle.reader_points.specs.declared.point.ReadPoint.TheVariants as points
use Rattle.reader_points.specs.declared.point.ReadNext.{ReadNext}
use Rattle.reader_points.specs.declared.point.ReadNext.TheVariants as nexts
use Rattle.reader_points.specs.ReaderPoints.{Context, frames_behind, point_program, next_program, with_taking, HasInHand, HasNext, IsBelow}
use Rattle.reader_points.specs.ReaderCodeSteps.{after_taking}
use Rattle.reader_seats.specs.ReaderGoesOn.{GoesOn}
use Rattle.reader_seats.specs.ReaderState.{ReaderData, around, reader_program}
use Rattle.reader_seats.proofs.ProgramAtNextStep.{goes_to}
use Rattle.reader_seats.proofs.ReaderFollows.{on_ok, early_next, at_last_same}

-- at another point
abbrev pub moved : ReaderData → ReadPoint → ReaderData
moved r p = record { point = p; held = r.held; kept = r.kept; frame = r.frame; fresh = r.fresh; asked = r.asked }

-- ## Behind any step

pub point_goes : (calls : List ℕ) (old seen : ReaderData) (next : ReadNext) (point : ReadPoint) (os : List (Option Outcome)) → old ≡ seen → next ≡ nexts.Point point → GoesOn calls (next_program (around calls seen) next) (moved old point) os os
point_goes calls old seen next point os v is =
    let e : reader_program calls (moved old point) ≡ next_program (around calls seen) next = ap (λ s. point_program (around calls s) point) v ∙ ap (λ n. next_program (around calls seen) n) (sym is) in
    goes_to calls (moved old point) (next_program (around calls seen) next) e os

pub early_goes : (calls : List ℕ) (old mid new : ReaderData) (next : ReadNext) (r : Reader) {T E : Type 0} (result : Result T E) (os : List (Option Outcome)) → next ≡ nexts.Early r
    → (mid.held ≡ old.held) × (mid.kept ≡ old.kept ++ old.frame ∷ []) → OnOk result (reader_program calls new ≡ frames_behind (around calls mid) r mid.kept) → OnOk result (GoesOn calls (next_program (around calls old) next) new os os)
early_goes calls old mid new next r result os is h ok =
    on_ok result (λ e. subst (λ n. GoesOn calls (next_program (around calls old) n) new os os) (sym is) (goes_to calls new (next_program (around calls old) (nexts.Early r)) (early_next calls old mid new r h.0 h.1 e) os)) ok

-- ## Behind a word

pub word_goes : (calls : List ℕ) (old seen new : ReaderData) (found : ℕ) (next : ReadNext) {T E : Type 0} (result : Result T E) (os us : List (Option Outcome)) → old ≡ seen
    → next_program (around calls old) next ≡ after_word (reader_program calls old) found → OnOk result (GoesOn calls (next_program (around calls seen) next) new os us) → OnOk result (GoesOn calls (after_word (reader_program calls seen) found) new os us)
word_goes calls old seen new found next result os us v e ok =
    let f : next_program (around calls seen) next ≡ after_word (reader_program calls seen) found = subst (λ s. next_program (around calls s) next ≡ after_word (reader_program calls s) found) v e in
    on_ok result (λ g. subst (λ p. GoesOn calls p new os us) f g) ok

-- ## Behind a take

pub rests : (old seen : ReaderData) (r : Reader) → old ≡ seen → old.point ≡ points.Take r → HasInHand (around [] old) old.point → judged seen.held ≡ NoneYet
rests old seen r v is h =
    let k : (judged old.held ≡ NoneYet) × IsBelow r.total = subst (λ p. HasInHand (around [] old) p) is h in
    subst (λ (s : ReaderData). judged s.held ≡ NoneYet) v k.0

-- it was fed
abbrev IsFed : Taking → ReaderData → ReaderData → Type 0
IsFed t seen mid = (calls : List ℕ) → around calls mid ≡ with_taking t (around calls seen)

fed_around : (calls : List ℕ) (old seen mid : ReaderData) (ending : Bool) (t : Taking) → old ≡ seen → IsFed t seen mid → around calls mid ≡ with_taking (at_last ending t) (around calls old)
fed_around calls old seen mid ending t v fed = fed calls ∙ ap (λ s. with_taking t (around calls s)) (sym v) ∙ sym (at_last_same ending t (around calls old))

pub fed_hand : (others : List ℕ) (old seen mid : ReaderData) (r : Reader) (ending : Bool) (t : Taking) (next : ReadNext) → old ≡ seen → old.point ≡ points.Take r → HasInHand (around others old) old.point → IsFed t seen mid
    → ((a : Context) → HasInHand a (points.Take r) → HasNext (with_taking (at_last ending t) a) next) → HasNext (around others mid) next
fed_hand others old seen mid r ending t next v is h fed hand =
    subst (λ a. HasNext a next) (sym (fed_around others old seen mid ending t v fed)) (hand (around others old) (subst (λ p. HasInHand (around others old) p) is h))

pub took_goes : (calls : List ℕ) (old seen mid new : ReaderData) (r : Reader) (ending : Bool) (t : Taking) (next : ReadNext) {T E : Type 0} (result : Result T E) (os us : List (Option Outcome)) → old ≡ seen → old.point ≡ points.Take r → IsFed t seen mid
    → ((a : Context) → next_program (with_taking (at_last ending t) a) next ≡ after_taking (point_program a (points.Take r)) (at_last ending t))
    → OnOk result (GoesOn calls (next_program (around calls mid) next) new os us) → OnOk result (GoesOn calls (after_taking (reader_program calls seen) (at_last ending t)) new os us)
took_goes calls old seen mid new r ending t next result os us v is fed program ok =
    let f : next_program (around calls mid) next ≡ after_taking (reader_program calls seen) (at_last ending t) =
    ap (λ a. next_program a next) (fed_around calls old seen mid ending t v fed)
    ∙ program (around calls old)
    ∙ ap (λ p. after_taking (point_program (around calls old) p) (at_last ending t)) (sym is)
    ∙ ap (λ s. after_taking (reader_program calls s) (at_last ending t)) v in
    on_ok result (λ g. subst (λ p. GoesOn calls p new os us) f g) ok

pub threw_goes : (calls : List ℕ) (old seen : ReaderData) (link : ℕ) (total : ByteCount) (point : ReadPoint) (t : Taking) (os : List (Option Outcome)) → old ≡ seen → old.point ≡ points.Discard link total
    → point_program (around calls old) point ≡ after_taking (point_program (around calls old) (points.Discard link total)) t → GoesOn calls (after_taking (reader_program calls seen) t) (moved old point) os os
threw_goes calls old seen link total point t os v is program =
    let e : reader_program calls (moved old point) ≡ after_taking (reader_program calls seen) t =
    program ∙ ap (λ p. after_taking (point_program (around calls old) p) t) (sym is) ∙ ap (λ s. after_taking (reader_program calls s) t) v in
    goes_to calls (moved old point) (after_taking (reader_program calls seen) t) e os
