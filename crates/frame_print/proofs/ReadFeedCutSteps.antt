-- The steps of reading, feeding and cutting.
use Rattle.std.proofs.Common.{◌≡◌, ℕ, ◌+◌, ◌-◌, ◌≤◌, min, List, [], ◌∷◌, ◌++◌, length, take, true, false, Option, Some, None, Result, Ok, Err, OnOk, refl, ap, sym, ◌∙◌, subst, arith, append_assoc, append-nil, length-append, length-take}
use Rattle.std.specs.Prelude.{max, flat_map, is_err, MatchBool, Bool}
use Rattle.std.specs.Io.KnownBytes.{Appends, Consumes, Keeps}
use Rattle.std.proofs.lemmas.Grind.{flat_map-append}
use Rattle.brpc_model.specs.Frame.{Frame, Judged, NoneYet, judged}
use Rattle.brpc_model.specs.FrameStream.{stream_from}
use Rattle.brpc_model.specs.FramesText.{frame_line}
use Rattle.sock_io.specs.FaultCauses.{Rose}
use Rattle.sock_io.specs.SourceAndSinkState.{SinkState}
use Rattle.sock_io.specs.declared.stream.Failed.{Failed}
use Rattle.sock_words.specs.declared.memory.NoMemory.{NoMemory}
use Rattle.prpc_frame.specs.CutterAnswers.{Fed, Answers}
use Rattle.prpc_frame.specs.declared.fault.NextFault.{NextFault}
use Rattle.prpc_frame.specs.declared.fault.NextFault.TheVariants as next
use Rattle.prpc_frame.specs.FrameMeaning.{fault_of, IsFault}
use Rattle.prpc_frame.specs.declared.frame.Frame as code
use Rattle.prpc_frame.specs.declared.fault.FrameFault.{FrameFault}
use Rattle.frame_print.specs.declared.print.Met.{Met}
use Rattle.frame_print.specs.TextWrittenToSink.{Writes, Gathers}
use Rattle.sock_io.specs.PartWrittenToSink.{WrotePart}
use Rattle.frame_print.specs.declared.print.StreamEnd.TheVariants as end_
use Rattle.frame_print.specs.Cutting.{CutPrinted, CutGathered, CutStopped, CutsWhole, Judges}
use Rattle.prpc_frame.specs.StreamCuts.{Cut}
use Rattle.frame_print.proofs.SuccessiveTextWriting.{Appends-nil, Appends-append, front_behind, front_before, rose_from}
use Rattle.frame_print.proofs.PrintedFrameCuts.{printed_fed, fault_meant}
use Rattle.prpc_frame.proofs.StreamCuts.{cut_none, cut_more}

-- ## Reading

pub consumes_none : (o : Option (List ℕ)) → Consumes o o []
consumes_none None = tt
consumes_none (Some xs) = refl

pub consumes_append : (o p q : Option (List ℕ)) (a b : List ℕ) → Consumes o p a → Consumes p q b → Consumes o q (a ++ b)
consumes_append None p q a b e f = tt
consumes_append (Some xs) None q a b e f = absurd e
consumes_append (Some xs) (Some ys) None a b e f = absurd f
consumes_append (Some xs) (Some ys) (Some zs) a b e f = e ∙ ap (λ x. a ++ x) f ∙ sym (append_assoc a b zs)

pub consumes_kept : (o p q : Option (List ℕ)) (bytes : List ℕ) → Consumes o p bytes → Keeps p q → Consumes o q bytes
consumes_kept None p q bytes e f = tt
consumes_kept (Some xs) None q bytes e f = absurd e
consumes_kept (Some xs) (Some ys) None bytes e f = absurd f
consumes_kept (Some xs) (Some ys) (Some zs) bytes e f = e ∙ ap (λ l. bytes ++ l) (sym f)

-- the end was read
pub consumes_end : (o p q : Option (List ℕ)) (bytes room : List ℕ) (count : ℕ) → Consumes o p bytes → Consumes p q (take count room) → count ≡ 0 → Consumes o q bytes
consumes_end o p q bytes room count e f zero =
    let P : ℕ → Type 0 = λ n. Consumes p q (take n room) in
    let Q : List ℕ → Type 0 = λ l. Consumes o q l in
    subst Q (append-nil bytes) (consumes_append o p q bytes [] e (subst P zero f))

-- what was read fits below the limit
pub few_left : (whole piece room : List ℕ) (read count least most : ℕ) → read ≡ length whole → read ≤ 268435456 → (read ≡ 268435456 → ⊥) → least ≡ min 65536 (268435456 - read) → most ≡ max least 1 →
    length piece ≡ length (take most room) → length (whole ++ take count piece) ≤ 268435456
few_left whole piece room read count least most counted few other l m size =
    omega (arith, length-append whole (take count piece), length-take count piece, length-take most room, counted, few, other, l, m, size)

-- at the limit it is one byte
pub one_read : (piece room : List ℕ) (read count least most : ℕ) → read ≡ 268435456 → least ≡ min 65536 (268435456 - read) → most ≡ max least 1 → length piece ≡ length (take most room) → count ≤ length piece →
    (count ≡ 0 → ⊥) → length (take count piece) ≡ 1
one_read piece room read count least most all l m size within some =
    omega (arith, length-take count piece, length-take most room, all, l, m, size, within, some)

pub counted_more : (whole piece : List ℕ) (read count : ℕ) → read ≡ length whole → count ≤ length piece → read + count ≡ length (whole ++ take count piece)
counted_more whole piece read count counted within = omega (arith, length-append whole (take count piece), length-take count piece, counted, within)

-- ## Feeding

fed_ok : (r : Result (Unit {0}) NoMemory) (P : Type 0) → is_err r ≡ false → OnOk r P → P
fed_ok (Ok u) P e h = h
fed_ok (Err x) P e h = absurd (cc)

pub fed_printed : (r : Result (Unit {0}) NoMemory) (whole held piece new : List ℕ) (o p : Option (List ℕ)) → CutPrinted whole o held p → judged held ≡ NoneYet → is_err r ≡ false → OnOk r (Fed held piece new) →
    OnOk r ((at : ℕ) (more : List ℕ) → stream_from at (new ++ more) ≡ stream_from at (held ++ (piece ++ more))) → CutPrinted (whole ++ piece) o new p
fed_printed r whole held piece new o p x waiting ok fed goes =
    printed_fed whole held piece new o p x waiting (fed_ok r (Fed held piece new) ok fed)
    (fed_ok r ((at : ℕ) (more : List ℕ) → stream_from at (new ++ more) ≡ stream_from at (held ++ (piece ++ more))) ok goes)

-- ## Cutting

ok_wrote : (a b : SinkState) (t : List ℕ) (r : Result (Unit {0}) Failed) → is_err r ≡ false → Writes a b t r → Appends a.contents b.contents t × (b.faults ≡ a.faults)
ok_wrote a b t (Ok u) e w = (w.whole, w.kept)
ok_wrote a b t (Err f) e w = absurd (cc)

err_wrote : (a b : SinkState) (t : List ℕ) (r : Result (Unit {0}) Failed) → is_err r ≡ true → Writes a b t r → WrotePart a.contents b.contents t × Rose a.faults b.faults
err_wrote a b t (Ok u) e w = absurd (cc)
err_wrote a b t (Err f) e w = (w.front, w.failed)

-- nothing waits yet
pub gathered_none : (bytes held : List ℕ) (o : Option (List ℕ)) → held ≡ [] → CutGathered bytes o bytes o held
gathered_none bytes held o none = record { frames = []; cut = cut_none bytes; done = []; wrote = Appends-nil o; split = none }

lines_next : (fs : List Frame) (f : Frame) → flat_map frame_line (fs ++ f ∷ []) ≡ flat_map frame_line fs ++ frame_line f
lines_next fs f = flat_map-append frame_line fs (f ∷ []) ∙ ap (λ l. flat_map frame_line fs ++ l) (append-nil (frame_line f))

line_behind : (fs : List Frame) (v f : Frame) (done held : List ℕ) → v ≡ f → done ++ held ≡ flat_map frame_line fs → done ++ (held ++ frame_line v) ≡ flat_map frame_line (fs ++ f ∷ [])
line_behind fs v f done held same split =
    ap (λ v. done ++ (held ++ frame_line v)) same ∙ sym (append_assoc done held (frame_line f)) ∙ ap (λ l. l ++ frame_line f) split ∙ sym (lines_next fs f)

-- the line of the frame at the front waits
pub gathered_next : (old cutter new : List ℕ) (o p q : SinkState) (held now : List ℕ) (v f : Frame) (r : Result (Unit {0}) Failed) → CutGathered old o.contents cutter p.contents held → p.faults ≡ o.faults → Cut cutter (f ∷ []) new → v ≡ f →
    is_err r ≡ false → Gathers p q held now (frame_line v) r → CutGathered old o.contents new q.contents now × (q.faults ≡ o.faults)
gathered_next old cutter new o p q held now v f (Err e) g kept one same ok w = absurd (cc)
gathered_next old cutter new o p q held now v f (Ok u) g kept one same ok w = (
  record {
    frames = g.frames ++ f ∷ [];
    cut = cut_more old cutter new g.frames (f ∷ []) g.cut one;
    done = g.done ++ w.0;
    wrote = Appends-append o.contents p.contents q.contents g.done w.0 g.wrote w.1;
    split = append_assoc g.done w.0 now ∙ ap (λ l. g.done ++ l) w.2 ∙ line_behind g.frames v f g.done held same g.split;
  },
  w.3 ∙ kept,
)

-- the sink failed in the lines that waited, or in that line
pub gather_stopped : (old cutter new : List ℕ) (o p q : SinkState) (held now : List ℕ) (v f : Frame) (r : Result (Unit {0}) Failed) → CutGathered old o.contents cutter p.contents held → p.faults ≡ o.faults → Cut cutter (f ∷ []) new → v ≡ f →
    is_err r ≡ true → Gathers p q held now (frame_line v) r → CutStopped old o new q
gather_stopped old cutter new o p q held now v f (Ok u) g kept one same err w = absurd (cc)
gather_stopped old cutter new o p q held now v f (Err e) g kept one same err w =
    let Q : List ℕ → Type 0 = λ l. WrotePart o.contents q.contents l in
    record {
      frames = g.frames ++ f ∷ [];
      cut = cut_more old cutter new g.frames (f ∷ []) g.cut one;
      front = subst Q (line_behind g.frames v f g.done held same g.split) (front_behind o.contents p.contents q.contents g.done (held ++ frame_line v) g.wrote w.0);
      rose = rose_from o.faults p.faults q.faults kept w.1;
    }

-- all lines were written
pub gathered_written : (old new : List ℕ) (o p q : Option (List ℕ)) (held : List ℕ) → CutGathered old o new p held → Appends p q held → CutPrinted old o new q
gathered_written old new o p q held g w =
    let P : List ℕ → Type 0 = λ l. Appends o q l in
    record { frames = g.frames; cut = g.cut; wrote = subst P g.split (Appends-append o p q g.done held g.wrote w) }

-- the sink failed in the lines that waited
pub gathered_lost : (old new : List ℕ) (o p q : SinkState) (held : List ℕ) → CutGathered old o.contents new p.contents held → p.faults ≡ o.faults → WrotePart p.contents q.contents held → Rose p.faults q.faults → CutStopped old o new q
gathered_lost old new o p q held g kept front rose =
    let Q : List ℕ → Type 0 = λ l. WrotePart o.contents q.contents l in
    record { frames = g.frames; cut = g.cut; front = subst Q g.split (front_behind o.contents p.contents q.contents g.done held g.wrote front); rose = rose_from o.faults p.faults q.faults kept rose }

-- a line that was written behind the lines that waited
pub gathers_written : (o p q : SinkState) (held text now : List ℕ) (r : Result (Unit {0}) Failed) → Appends o.contents p.contents held → p.faults ≡ o.faults → now ≡ [] → Writes p q text r → Gathers o q held now text r
gathers_written o p q held text now (Ok u) wrote kept none w =
    (held ++ text, Appends-append o.contents p.contents q.contents held text wrote w.whole, ap (λ l. (held ++ text) ++ l) none ∙ append-nil (held ++ text), w.kept ∙ kept)
gathers_written o p q held text now (Err e) wrote kept none w = (front_behind o.contents p.contents q.contents held text wrote w.front, rose_from o.faults p.faults q.faults kept w.failed)

-- the lines that waited were written, and that line waits in their place
pub gathers_waits : (o p : SinkState) (held mid now text : List ℕ) → Appends o.contents p.contents held → p.faults ≡ o.faults → mid ≡ [] → now ≡ mid ++ text → Gathers o p held now text (Ok tt)
gathers_waits o p held mid now text wrote kept none is = (held, wrote, ap (λ l. held ++ l) (is ∙ ap (λ l. l ++ text) none), kept)

pub kept_true : (b : Bool) (P Q : Type 0) → b ≡ true → MatchBool b P Q → P
kept_true true P Q e h = h
kept_true false P Q e h = absurd (cc)

pub kept_false : (b : Bool) (P Q : Type 0) → b ≡ false → MatchBool b P Q → Q
kept_false true P Q e h = absurd (cc)
kept_false false P Q e h = h

-- where no frame is cut, the same bytes are held
pub same_none : (j : Judged) (old new : List ℕ) (t : Option code.Frame) → t ≡ None → Answers j old (Ok t) new → new ≡ old
same_none j old new t is h = let P : Option code.Frame → Type 0 = λ o. Answers j old (Ok o) new in let k : Answers j old (Ok None) new = subst P is h in k.1

pub same_fault : (j : Judged) (old new : List ℕ) (n : NextFault) (fault : FrameFault) → n ≡ next.Frame fault → Answers j old (Err n) new → new ≡ old
same_fault j old new n fault is h = let P : NextFault → Type 0 = λ o. Answers j old (Err o) new in let k : Answers j old (Err (next.Frame fault)) new = subst P is h in k.1

pub same_memory : (j : Judged) (old new : List ℕ) (n : NextFault) → n ≡ next.NoMemory → Answers j old (Err n) new → new ≡ old
same_memory j old new n is h = let P : NextFault → Type 0 = λ o. Answers j old (Err o) new in let k : Answers j old (Err next.NoMemory) new = subst P is h in k

-- the sink failed in the lines that waited, and no frame was cut meanwhile
pub gathered_lost_at : (old held new : List ℕ) (o p q : SinkState) (lines : List ℕ) (e : Failed) → new ≡ held → CutGathered old o.contents held p.contents lines → p.faults ≡ o.faults → Writes p q lines (Err e) → CutStopped old o new q
gathered_lost_at old held new o p q lines e same g kept w =
    let P : List ℕ → Type 0 = λ l. CutStopped old o l q in subst P (sym same) (gathered_lost old held o p q lines g kept w.front w.failed)

-- the lines that waited were written, and no frame is whole
pub cut_none_more : (old held new : List ℕ) (o p q : SinkState) (lines : List ℕ) (t : Option code.Frame) → t ≡ None → Answers (judged held) held (Ok t) new → CutGathered old o.contents held p.contents lines → p.faults ≡ o.faults → Writes p q lines (Ok tt) →
    CutsWhole old o new q (Ok None)
cut_none_more old held new o p q lines t is h g kept w =
    let P : Option code.Frame → Type 0 = λ s. Answers (judged held) held (Ok s) new in
    let k : Answers (judged held) held (Ok None) new = subst P is h in
    let Q : List ℕ → Type 0 = λ l. CutPrinted old o.contents l q.contents × (judged l ≡ NoneYet) × (q.faults ≡ o.faults) in
    let there : Q held = (gathered_written old held o.contents p.contents q.contents lines g w.whole, k.0, w.kept ∙ kept) in
    subst Q (sym k.1) there

-- they were written, and there is a fault
pub cut_to_fault : (old held new : List ℕ) (o p q : SinkState) (lines : List ℕ) (n : NextFault) (met : Met) → n ≡ next.Frame met.fault → met.len ≡ length held → Answers (judged held) held (Err n) new → CutGathered old o.contents held p.contents lines → p.faults ≡ o.faults → Writes p q lines (Ok tt) →
    CutsWhole old o new q (Ok (Some met))
cut_to_fault old held new o p q lines n met is len h g kept w =
    let P : NextFault → Type 0 = λ f. Answers (judged held) held (Err f) new in
    let k : Answers (judged held) held (Err (next.Frame met.fault)) new = subst P is h in
    let Q : List ℕ → Type 0 = λ l. CutPrinted old o.contents l q.contents × IsFault (judged l) met.fault × (q.faults ≡ o.faults) × (met.len ≡ length l) in
    let there : Q held = (gathered_written old held o.contents p.contents q.contents lines g w.whole, k.0, w.kept ∙ kept, len) in
    subst Q (sym k.1) there

-- they were written, and memory ran out
pub cut_to_memory : (old held new : List ℕ) (o : Option (List ℕ)) (p q : SinkState) (lines : List ℕ) (n : NextFault) → n ≡ next.NoMemory → Answers (judged held) held (Err n) new → CutGathered old o held p.contents lines → Writes p q lines (Ok tt) → CutPrinted old o new q.contents
cut_to_memory old held new o p q lines n is h g w =
    let Q : List ℕ → Type 0 = λ l. CutPrinted old o l q.contents in
    subst Q (sym (same_memory (judged held) held new n is h)) (gathered_written old held o p.contents q.contents lines g w.whole)

-- the sink failed in the lines that waited
pub gathers_lost : (o p : SinkState) (held now text : List ℕ) (e f : Failed) (r : Result (Unit {0}) Failed) → r ≡ Err f → Writes o p held (Err e) → Gathers o p held now text r
gathers_lost o p held now text e f r is w =
    let P : Result (Unit {0}) Failed → Type 0 = λ q. Gathers o p held now text q in
    let lost : Gathers o p held now text (Err f) = (front_before o.contents p.contents held text w.front, w.failed) in
    subst P (sym is) lost

-- no frame is whole
pub cut_waits : (held new : List ℕ) (p q : SinkState) (o : Option Met) → o ≡ None → CutsWhole held p new q (Ok o) → CutPrinted held p.contents new q.contents × (judged new ≡ NoneYet) × (q.faults ≡ p.faults)
cut_waits held new p q o is h = let P : Option Met → Type 0 = λ t. CutsWhole held p new q (Ok t) in subst P is h

-- there is a fault
pub cut_faulty : (held new : List ℕ) (p q : SinkState) (met : Met) (o : Option Met) → o ≡ Some met → CutsWhole held p new q (Ok o) →
    CutPrinted held p.contents new q.contents × IsFault (judged new) met.fault × (q.faults ≡ p.faults) × (met.len ≡ length new)
cut_faulty held new p q met o is h = let P : Option Met → Type 0 = λ t. CutsWhole held p new q (Ok t) in subst P is h

-- ## Where the sink failed

-- the frames that were passed over, up to the fault
pub judged_fault : (old held new : List ℕ) (fs : List Frame) (n : NextFault) (fault : FrameFault) → Cut old fs held → n ≡ next.Frame fault → Answers (judged held) held (Err n) new → Judges old new (Ok end_.Fault)
judged_fault old held new fs n fault cut is h =
    let P : NextFault → Type 0 = λ o. Answers (judged held) held (Err o) new in
    let k : Answers (judged held) held (Err (next.Frame fault)) new = subst P is h in
    let Q : List ℕ → Type 0 = λ l. Judges old l (Ok end_.Fault) in
    let meant = fault_meant (fault_of fault) (judged held) k.0 in
    let there : Judges old held (Ok end_.Fault) = record { frames = fs; cut = cut; judges = (meant.0, meant.2) } in
    subst Q (sym k.1) there
