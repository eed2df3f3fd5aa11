-- Texts that are written one behind another.
use Rattle.std.proofs.Common.{◌≡◌, ℕ, List, [], ◌++◌, Option, Some, None, Result, Ok, Err, refl, ap, sym, ◌∙◌, subst, append_assoc, append-nil}
use Rattle.std.specs.Io.KnownBytes.{Appends, Keeps}
use Rattle.sock_io.specs.FaultCauses.{Rose}
use Rattle.sock_io.specs.SourceAndSinkState.{SinkState}
use Rattle.sock_io.specs.declared.stream.Failed.{Failed}
use Rattle.frame_print.specs.TextWrittenToSink.{Writes}
use Rattle.sock_io.specs.PartWrittenToSink.{WrotePart}

pub Appends-nil : (o : Option (List ℕ)) → Appends o o []
Appends-nil None = tt
Appends-nil (Some xs) = sym (append-nil xs)

pub Appends-append : (o p q : Option (List ℕ)) (a b : List ℕ) → Appends o p a → Appends p q b → Appends o q (a ++ b)
Appends-append None p q a b e f = tt
Appends-append (Some xs) None q a b e f = absurd e
Appends-append (Some xs) (Some ys) None a b e f = absurd f
Appends-append (Some xs) (Some ys) (Some zs) a b e f = f ∙ ap (λ x. x ++ b) e ∙ append_assoc xs a b

-- a beginning of what comes second
pub front_behind : (o p q : Option (List ℕ)) (s t : List ℕ) → Appends o p s → WrotePart p q t → WrotePart o q (s ++ t)
front_behind o p q s t whole front =
    (s ++ front.0, front.1, append_assoc s front.0 front.1 ∙ ap (λ x. s ++ x) front.2, Appends-append o p q s front.0 whole front.3)

-- a beginning of what comes first
pub front_before : (o p : Option (List ℕ)) (s t : List ℕ) → WrotePart o p s → WrotePart o p (s ++ t)
front_before o p s t front = (front.0, front.1 ++ t, sym (append_assoc front.0 front.1 t) ∙ ap (λ x. x ++ t) front.2, front.3)

pub rose_from : (x y z : ℕ) → y ≡ x → Rose y z → Rose x z
rose_from x y z e h = let P : ℕ → Type 0 = λ n. Rose n z in subst P e h

-- a text behind one that was written
pub then_wrote : (a b d : SinkState) (s t : List ℕ) (r : Result (Unit {0}) Failed) → Writes a b s (Ok tt) → Writes b d t r → Writes a d (s ++ t) r
then_wrote a b d s t (Ok u) f g = record { whole = Appends-append a.contents b.contents d.contents s t f.whole g.whole; kept = g.kept ∙ f.kept; front = tt; failed = tt }
then_wrote a b d s t (Err e) f g = record { whole = tt; kept = tt; front = front_behind a.contents b.contents d.contents s t f.whole g.front; failed = rose_from a.faults b.faults d.faults f.kept g.failed }

-- what would have come behind wasn't written
pub stopped : (a b : SinkState) (s t : List ℕ) (e : Failed) → Writes a b s (Err e) → Writes a b (s ++ t) (Err e)
stopped a b s t e f = record { whole = tt; kept = tt; front = front_before a.contents b.contents s t f.front; failed = f.failed }

-- nothing is written
pub wrote_none : (a : SinkState) → Writes a a [] (Ok tt)
wrote_none a = record { whole = Appends-nil a.contents; kept = refl; front = tt; failed = tt }

-- the same text
pub as_text : (a b : SinkState) (s t : List ℕ) (r : Result (Unit {0}) Failed) → Writes a b s r → s ≡ t → Writes a b t r
as_text a b s t r f e = let P : List ℕ → Type 0 = λ l. Writes a b l r in subst P e f

pub kept_behind : (o p q : Option (List ℕ)) (s : List ℕ) → Appends o p s → Keeps p q → Appends o q s
kept_behind None p q s e f = tt
kept_behind (Some xs) None q s e f = absurd e
kept_behind (Some xs) (Some ys) None s e f = absurd f
kept_behind (Some xs) (Some ys) (Some zs) s e f = f ∙ e

-- a write failed behind a beginning of the text
pub failed_write : (a b d : SinkState) (done rest all : List ℕ) (e : Failed) → Writes a b done (Ok tt) → done ++ rest ≡ all → Keeps b.contents d.contents → Rose b.faults d.faults → Writes a d all (Err e)
failed_write a b d done rest all e f split same rose =
    record { whole = tt; kept = tt; front = (done, rest, split, kept_behind a.contents b.contents d.contents done f.whole same); failed = rose_from a.faults b.faults d.faults f.kept rose }

-- a write that failed behind what was written
pub stopped_in : (a b d : SinkState) (done piece rest all : List ℕ) (e s : Failed) (r : Result (Unit {0}) Failed) → Writes a b done (Ok tt) → Writes b d piece (Err e) →
    done ++ (piece ++ rest) ≡ all → r ≡ Err s → Writes a d all r
stopped_in a b d done piece rest all e s r f g split is =
    let P : Result (Unit {0}) Failed → Type 0 = λ q. Writes a d all q in
    let failed : Writes a d all (Err s) = record { whole = tt; kept = tt; front = let front = front_behind a.contents b.contents d.contents done (piece ++ rest) f.whole (front_before b.contents d.contents piece rest g.front) in (front.0, front.1, front.2 ∙ split, front.3); failed = rose_from a.faults b.faults d.faults f.kept g.failed } in
    subst P (sym is) failed

-- a write that failed first
pub stopped_at : (a b : SinkState) (piece rest all : List ℕ) (e s : Failed) (r : Result (Unit {0}) Failed) → Writes a b piece (Err e) → piece ++ rest ≡ all → r ≡ Err s → Writes a b all r
stopped_at a b piece rest all e s r g split is =
    let P : Result (Unit {0}) Failed → Type 0 = λ q. Writes a b all q in
    let failed : Writes a b all (Err s) = record { whole = tt; kept = tt; front = let front = front_before a.contents b.contents piece rest g.front in (front.0, front.1, front.2 ∙ split, front.3); failed = g.failed } in
    subst P (sym is) failed
