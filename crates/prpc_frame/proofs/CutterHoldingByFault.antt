-- What a cutter holds, by the fault that it has noted.
use Rattle.std.proofs.Common.{◌≡◌, ℕ, true, false, List, ◌++◌, length, Option, Some, None, Result, Ok, Err, refl, ap, sym, ◌∙◌, subst, inl}
use Rattle.std.specs.Prelude.{if◌then◌else◌, is_some, OnOk, OnErr}
use Rattle.rpc_meta.specs.brpc_model.specs.Frame.{judged}
use Rattle.rpc_meta.specs.brpc_model.specs.FrameStream.{stream_from}
use Rattle.io_buf.specs.Buffer.{Buffer}
use Rattle.prpc_frame.specs.HeldByCutter.{Held, held_count, with_piece}
use Rattle.prpc_frame.specs.InsideCutter.{bytes_of, seen, Noted}
use Rattle.prpc_frame.specs.FrameMeaning.{fault_of, IsFault}
use Rattle.prpc_frame.specs.CutterAnswers.{Answers, IsFaulty, Fed}
use Rattle.prpc_frame.specs.declared.frame.Frame.{Frame}
use Rattle.prpc_frame.specs.declared.fault.FrameFault.{FrameFault}
use Rattle.prpc_frame.specs.declared.fault.NextFault.{NextFault}
use Rattle.prpc_frame.proofs.LastingStreamFacts.{is_fault, fed}

pub counted : (o : Option FrameFault) (held faulty : List ℕ) (now : Held) → seen o held faulty ≡ now → Noted o held faulty → length held ≡ held_count now
counted None held faulty now e i = ap (λ (h : Held). held_count h) e
counted (Some f) held faulty now e i = ap length i.0 ∙ ap (λ (h : Held). held_count h) e

-- ## No fault is noted

pub unnoted : (o : Option FrameFault) (held faulty : List ℕ) (now : Held) → is_some o ≡ false → seen o held faulty ≡ now → (held ≡ now.bytes) × (now.told ≡ false)
unnoted None held faulty now n e = (ap (λ (h : Held). h.bytes) e, sym (ap (λ (h : Held). h.told) e))
unnoted (Some f) held faulty now n e = let k : true ≡ false = n in absurd (cc)

pub still_unnoted : (o : Option FrameFault) (held faulty : List ℕ) → is_some o ≡ false → Noted o held faulty × (held ≡ bytes_of o held faulty)
still_unnoted None held faulty n = (tt, refl)
still_unnoted (Some f) held faulty n = let k : true ≡ false = n in absurd (cc)

pub appended : {E : Type 0} (r : Result (Unit {0}) E) (o : Option FrameFault) (held faulty new piece : List ℕ) (now : Held) → is_some o ≡ false → seen o held faulty ≡ now → OnOk r (new ≡ held ++ piece) →
    OnOk r (seen o new faulty ≡ with_piece now piece)
appended (Err x) o held faulty new piece now n e h = tt
appended (Ok u) None held faulty new piece now n e h = ap (λ (l : List ℕ). let s : Held = record { bytes = l; told = false } in s) h ∙ ap (λ (h : Held). with_piece h piece) e
appended (Ok u) (Some f) held faulty new piece now n e h = let k : true ≡ false = n in absurd (cc)

pub fed_more : {E : Type 0} (r : Result (Unit {0}) E) (o : Option FrameFault) (held faulty new piece : List ℕ) (now : Held) → is_some o ≡ false → seen o held faulty ≡ now → OnOk r (new ≡ held ++ piece) →
    OnOk r (Fed now.bytes piece (bytes_of o new faulty))
fed_more (Err x) o held faulty new piece now n e h = tt
fed_more (Ok u) None held faulty new piece now n e h = inl (h ∙ ap (λ (h : Held). h.bytes ++ piece) e)
fed_more (Ok u) (Some f) held faulty new piece now n e h = let k : true ≡ false = n in absurd (cc)

pub fed_on : {E : Type 0} (r : Result (Unit {0}) E) (old piece new : List ℕ) → OnOk r (Fed old piece new) →
    OnOk r ((at : ℕ) (more : List ℕ) → stream_from at (new ++ more) ≡ stream_from at (old ++ (piece ++ more)))
fed_on (Err x) old piece new h = tt
fed_on (Ok u) old piece new h = λ at more. fed at more old piece new h

pub unchanged : {E : Type 0} (r : Result (Unit {0}) E) (o : Option FrameFault) (held new : Buffer) (faulty : List ℕ) (now : Held) → seen o held.items faulty ≡ now → OnErr r (new ≡ held) → OnErr r (seen o new.items faulty ≡ now)
unchanged (Ok u) o held new faulty now e h = tt
unchanged (Err x) o held new faulty now e h = ap (λ (b : Buffer). seen o b.items faulty) h ∙ e

-- ## A fault is noted

pub told_faulty : (o : Option FrameFault) (held faulty : List ℕ) (now : Held) → seen o held faulty ≡ now → Noted o held faulty → now.told ≡ true → IsFaulty (judged now.bytes)
told_faulty None held faulty now e i t = let k : false ≡ true = ap (λ (h : Held). h.told) e ∙ t in absurd (cc)
told_faulty (Some f) held faulty now e i t = let P : Held → Type 0 = λ h. IsFaulty (judged h.bytes) in subst P e (is_fault (fault_of f) (judged faulty) i.1)

pub same_piece : (now : Held) (piece : List ℕ) → now.told ≡ true → now ≡ with_piece now piece
same_piece now piece t = ap (λ b. if b then now else record { bytes = now.bytes ++ piece; told = false }) (sym t)

pub noted : (o : Option FrameFault) (held faulty : List ℕ) (now : Held) (f : FrameFault) → o ≡ Some f → seen o held faulty ≡ now → Noted o held faulty → IsFault (judged now.bytes) f × (now.told ≡ true)
noted None held faulty now f s e i = let k : None ≡ Some f = s in absurd (cc)
noted (Some x) held faulty now f s e i =
    let is : x ≡ f = cc in
    let P : Held → Type 0 = λ h. IsFault (judged h.bytes) f in
    let Q : FrameFault → Type 0 = λ y. IsFault (judged faulty) y in
    (subst P e (subst Q is i.1), sym (ap (λ (h : Held). h.told) e))

-- ## What is answered

pub answers_at : (old now new kept : List ℕ) (r : Result (Option Frame) NextFault) → old ≡ now → new ≡ kept → Answers (judged old) old r new → Answers (judged now) now r kept
answers_at old now new kept r e k h =
    let P : List ℕ → Type 0 = λ l. Answers (judged l) l r kept in
    let Q : List ℕ → Type 0 = λ l. Answers (judged old) old r l in
    subst P e (subst Q k h)
