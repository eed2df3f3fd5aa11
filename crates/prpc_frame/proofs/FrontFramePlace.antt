-- The frame at the front, where it lies.
use Rattle.std.proofs.Common.{◌≡◌, ℕ, zero, suc, ◌+◌, ◌-◌, ◌≤◌, List, [], ◌++◌, length, drop, Option, Some, None, Ok, IfSome, refl, ap, sym, ◌∙◌, subst, arith, length-append, length-drop}
use Rattle.rpc_meta.specs.brpc_model.specs.Frame.{NoneYet, Begins, judged}
use Rattle.rpc_meta.specs.brpc_model.specs.FrameStream.{with_frame, stream_from}
use Rattle.prpc_frame.specs.CutterAnswers.{Cuts}
use Rattle.prpc_frame.specs.Header.{IsWhole, HeaderSays}
use Rattle.prpc_frame.specs.HeldByCutter.{Held, held_count}
use Rattle.prpc_frame.specs.InsideCutter.{bytes_of, seen, Noted}
use Rattle.prpc_frame.specs.Front.{front_of, IsInFront, LiesInFront, LeadsOn}
use Rattle.prpc_frame.specs.declared.fault.FrameFault.{FrameFault}
use Rattle.prpc_frame.specs.declared.front.FrontFrame.{FrontFrame}
use Rattle.prpc_frame.specs.declared.header.Sizes.{Sizes}
use Rattle.prpc_frame.proofs.LastingStreamFacts.{stays, begins}
use Rattle.prpc_frame.proofs.CutterHoldingByFault.{counted}

-- the sizes of what is whole
pub whole_sizes_are : (bytes : List ℕ) (o : Option Sizes) → HeaderSays bytes (Ok o) → IfSome o (λ sizes. IsWhole bytes sizes.meta sizes.body)
whole_sizes_are bytes None h = tt
whole_sizes_are bytes (Some sizes) h = h

-- more bytes behind it change nothing
longer : (bytes more : List ℕ) (f : FrontFrame) → IsInFront bytes f → IsInFront (bytes ++ more) f
longer bytes more f x = record {
  body = x.body;
  means = stays bytes more (λ n. let no : NoneYet ≡ Begins (front_of f) x.body = sym n ∙ x.means in cc) ∙ x.means;
  size = x.size;
  there = omega (arith, x.there, length-append bytes more);
}

lies : (f : FrontFrame) (o : Option FrameFault) (held faulty : List ℕ) (now : Held) → seen o held faulty ≡ now → Noted o held faulty → IsInFront held f → LiesInFront now f
lies f None held faulty now e i x =
    let P : Held → Type 0 = λ h. LiesInFront h f in
    let here : LiesInFront (seen None held faulty) f = record { is = x; held = x.there } in
    subst P e here
lies f (Some fault) held faulty now e i x = absurd (omega (arith, x.there, x.size, ap length i.0))

-- what lies in the first piece lies in front
pub lies_in_front : (r : Option FrontFrame) (o : Option FrameFault) (held faulty piece : List ℕ) (now : Held) → seen o held faulty ≡ now → Noted o held faulty → piece ++ drop (length piece) held ≡ held →
    IfSome r (λ f. IsInFront piece f) → IfSome r (λ f. LiesInFront now f)
lies_in_front None o held faulty piece now e i split h = tt
lies_in_front (Some f) o held faulty piece now e i split h =
    let P : List ℕ → Type 0 = λ l. IsInFront l f in
    lies f o held faulty now e i (subst P split (longer piece (drop (length piece) held) f h))

leads_from : (bytes : List ℕ) (f : FrontFrame) → IsInFront bytes f → LeadsOn bytes f
leads_from bytes f x = λ at more.
    let rest : List ℕ = drop f.size bytes in
    let cuts : Cuts (judged bytes) bytes (front_of f) rest = record { body = x.body; means = x.means; there = omega (arith, x.size, x.there); rest = ap (λ (n : ℕ). drop n bytes) x.size } in
    let size : length bytes - length rest ≡ f.size = omega (arith, x.there, length-drop f.size bytes) in
    begins at bytes more rest (front_of f) cuts ∙ ap (λ (n : ℕ). with_frame (front_of f) (stream_from (at + n) (rest ++ more))) size

-- it is the next frame of the stream
pub leads_on : (r : Option FrontFrame) (now : Held) → IfSome r (λ f. LiesInFront now f) → IfSome r (λ f. LeadsOn now.bytes f)
leads_on None now h = tt
leads_on (Some f) now h = leads_from now.bytes f h.is

-- ## Letting bytes go

drop_none : (n : ℕ) → ◌≡◌ {A = List ℕ} (drop n []) []
drop_none zero = refl
drop_none (suc n) = refl

pub skipped : (o : Option FrameFault) (held faulty new : List ℕ) (now : Held) (n : ℕ) → seen o held faulty ≡ now → Noted o held faulty → n ≤ held_count now → new ≡ drop n held → bytes_of o new faulty ≡ drop n now.bytes
skipped None held faulty new now n e i few is = is ∙ ap (λ (h : Held). drop n h.bytes) e
skipped (Some fault) held faulty new now n e i few is =
    let none : 0 ≡ n = omega (arith, few, counted (Some fault) held faulty now e i, ap length i.0) in
    ap (λ (h : Held). h.bytes) e ∙ ap (λ (k : ℕ). drop k now.bytes) none

pub still_noted : (o : Option FrameFault) (held faulty new : List ℕ) (n : ℕ) → Noted o held faulty → new ≡ drop n held → Noted o new faulty
still_noted None held faulty new n i is = tt
still_noted (Some fault) held faulty new n i is = (is ∙ ap (drop n) i.0 ∙ drop_none n, i.1)
