-- What services come to, one by one.
use Rattle.std.proofs.Common.{◌≡◌, ℕ, ◌+◌, ◌<◌, ◌≤◌, Bool, true, false, ◌||◌, ◌&&◌, List, [], ◌∷◌, ◌++◌, length, map, sum, Option, Some, None, Result, Ok, Err, refl, sym, ap, ◌∙◌, subst, arith, append_assoc, append-nil, length-append}
use Rattle.std.specs.Prelude.{IfSome, IfOk, IfErr}
use Rattle.std.specs.List.{list_all, list_any}
use Rattle.std.proofs.lemmas.List.Folds.{list_all-append, list_any-append}
use Rattle.std.proofs.lemmas.List.Sums.{sum_by-append}
use Rattle.std.proofs.lemmas.List.{length-map, map-append}
use Rattle.brpc_model.specs.ReturnedLink.{LinkEnd}
use Rattle.sock_io.specs.declared.link.OpenFault.{OpenFault}
use Rattle.sock_io.specs.declared.link.OpenFault.TheVariants as open_
use Rattle.sock_io.specs.FaultCauses.{Rose}
use Rattle.serve_port.specs.declared.service.ServeFault.{ServeFault}
use Rattle.serve_port.specs.declared.service.ServeFault.TheVariants as fault_
use Rattle.serve_port.specs.declared.tally.Tally.{Tally}
use Rattle.serve_port.specs.ServingConnections.{ServedConnection, is_failing, is_faulty, is_whole, frames_of, AnswersBy}
use Rattle.serve_port.specs.ServiceSteps.{AcceptedBy, IsTally}

or_false : (b : Bool) → (b || false) ≡ b
or_false true = refl
or_false false = refl

and_true : (b : Bool) → (b && true) ≡ b
and_true true = refl
and_true false = refl

any_more : {X : Type 0} (p : X → Bool) (xs : List X) (x : X) (one : Bool) (next : Bool) → one ≡ list_any p xs → next ≡ (one || p x) → next ≡ list_any p (xs ++ x ∷ [])
any_more p xs x one next e f = f ∙ ap (λ b. b || p x) e ∙ ap (λ b. list_any p xs || b) (sym (or_false (p x))) ∙ sym (list_any-append p xs (x ∷ []))

all_more : {X : Type 0} (p : X → Bool) (xs : List X) (x : X) (one : Bool) (next : Bool) → one ≡ list_all p xs → next ≡ (one && p x) → next ≡ list_all p (xs ++ x ∷ [])
all_more p xs x one next e f = f ∙ ap (λ b. b && p x) e ∙ ap (λ b. list_all p xs && b) (sym (and_true (p x))) ∙ sym (list_all-append p xs (x ∷ []))

frames_more : (served : List ServedConnection) (x : ServedConnection) → frames_of (served ++ x ∷ []) ≡ frames_of served + x.service.frames
frames_more served x =
    let f : ServedConnection → ℕ = λ s. s.service.frames in
    let a : frames_of (served ++ x ∷ []) ≡ frames_of served + sum (map f (x ∷ [])) = ap sum (map-append f served (x ∷ [])) ∙ sum_by-append (λ n. n) (map f served) (map f (x ∷ [])) in
    let b : sum (map f (x ∷ [])) ≡ 0 + x.service.frames = refl in omega (arith, a, b)

told_sum : (served : List ServedConnection) (x : ServedConnection) (o p : Option ℕ) → IfSome o (λ n. n ≡ frames_of served) → ((m : ℕ) → p ≡ Some m → (n : ℕ) × (o ≡ Some n) × (m ≡ n + x.service.frames)) → IfSome p (λ n. n ≡ frames_of (served ++ x ∷ []))
told_sum served x o None h f = tt
told_sum served x o (Some m) h f =
    let y = f m refl in
    let k : y.0 ≡ frames_of served = subst (λ (q : Option ℕ). IfSome q (λ n. n ≡ frames_of served)) y.1 h in
    let w = frames_more served x in let e = y.2 in omega (arith, e, k, w)

pub tally_more : (served : List ServedConnection) (x : ServedConnection) (t t' : Tally) → IsTally served t → ((m : ℕ) → t'.frames ≡ Some m → (n : ℕ) × (t.frames ≡ Some n) × (m ≡ n + x.service.frames))
    → t'.failing ≡ (t.failing || is_failing x.service.end) → t'.faulty ≡ (t.faulty || is_faulty x.service.end) → t'.whole ≡ (t.whole && is_whole x.service.end) → IsTally (served ++ x ∷ []) t'
tally_more served x t t' k f a b w = record {
  frames = told_sum served x t.frames t'.frames k.frames f;
  failing = any_more (λ (s : ServedConnection). is_failing s.service.end) served x t.failing t'.failing k.failing a;
  faulty = any_more (λ (s : ServedConnection). is_faulty s.service.end) served x t.faulty t'.faulty k.faulty b;
  whole = all_more (λ (s : ServedConnection). is_whole s.service.end) served x t.whole t'.whole k.whole w;
}

-- what is answered where no accept failed
pub answers_frames : (served : List ServedConnection) (count before now frames : ℕ) (t : Tally) (r : Result ℕ ServeFault) → IsTally served t → now ≡ before → Some frames ≡ t.frames → t.failing ≡ false → t.faulty ≡ false
    → (IsAll : Type 0) → (IsAll → length served ≡ count) → IfOk r (λ n. (n ≡ frames) × IsAll × (t.whole ≡ true)) → IfErr r (λ e. e ≡ fault_.NoMemory) → AnswersBy count before now served r
answers_frames served count before now frames t (Ok n) k same told failing faulty IsAll all h w =
    let said : frames ≡ frames_of served = subst (λ (q : Option ℕ). IfSome q (λ n. n ≡ frames_of served)) (sym told) k.frames in
    (all h.1, sym k.whole ∙ h.2, h.0 ∙ said, same)
answers_frames served count before now frames t (Err e) k same told failing faulty IsAll all h w =
    subst (λ (f : ServeFault). AnswersBy count before now served (Err f)) (sym w) (sym k.failing ∙ failing, sym k.faulty ∙ faulty, same)

pub answers_none : (served : List ServedConnection) (count before now : ℕ) (t : Tally) → IsTally served t → now ≡ before → t.failing ≡ false → t.faulty ≡ false → AnswersBy count before now served (Err fault_.NoMemory)
answers_none served count before now t k same failing faulty = (sym k.failing ∙ failing, sym k.faulty ∙ faulty, same)

-- ## Given back one by one

pub more_given : {A B : Type 0} (f : A → B) (given : List B) (left rest : List A) (x : A) (all : List B) → given ++ map f left ≡ all → left ≡ x ∷ rest → (given ++ f x ∷ []) ++ map f rest ≡ all
more_given f given left rest x all h l = append_assoc given (f x ∷ []) (map f rest) ∙ (sym (ap (λ xs. given ++ map f xs) l) ∙ h)

pub none_left : {A B : Type 0} (f : A → B) (given : List B) (left : List A) (all : List B) → given ++ map f left ≡ all → left ≡ [] → given ≡ all
none_left f given left all h e = sym (append-nil given) ∙ (sym (ap (λ xs. given ++ map f xs) e) ∙ h)

-- one more is given back than before
pub done_more : (done done' first : List LinkEnd) (given : List ServedConnection) (s : ServedConnection) → done ≡ first ++ map (λ (x : ServedConnection). x.connection) given → done' ≡ done ++ s.connection ∷ []
    → done' ≡ first ++ map (λ (x : ServedConnection). x.connection) (given ++ s ∷ [])
done_more done done' first given s e f =
    f ∙ ap (λ l. l ++ s.connection ∷ []) e ∙ append_assoc first (map (λ (x : ServedConnection). x.connection) given) (s.connection ∷ []) ∙ ap (λ l. first ++ l) (sym (map-append (λ (x : ServedConnection). x.connection) given (s ∷ [])))

-- while one is left, fewer were given back than accepted
pub may_give : {A : Type 0} (f : A → ServedConnection) (done first : List LinkEnd) (given : List ServedConnection) (left rest all : List A) (x : A) (accepted : ℕ) → done ≡ first ++ map (λ (x : ServedConnection). x.connection) given → given ++ map f left ≡ map f all
    → left ≡ x ∷ rest → length first + length all ≤ accepted → length done < accepted
may_give f done first given left rest all x accepted e h l few =
    omega (
      arith,
      few,
      ap length e,
      length-append first (map (λ (x : ServedConnection). x.connection) given),
      length-map given (λ (x : ServedConnection). x.connection),
      ap length h,
      length-append given (map f left),
      length-map left f,
      length-map all f,
      ap length l,
    )

-- where no accept failed, the linker's count stands still
pub still_short : (count n before now : ℕ) (f : OpenFault) → f ≡ open_.NoMemory → AcceptedBy count n before now (Err f) → now ≡ before
still_short count n before now f short a = subst (λ (x : OpenFault). AcceptedBy count n before now (Err x)) short a

pub was_failed : (count n before now : ℕ) (f : OpenFault) → f ≡ open_.Failed → AcceptedBy count n before now (Err f) → Rose before now
was_failed count n before now f failed a = subst (λ (x : OpenFault). AcceptedBy count n before now (Err x)) failed a

pub was_refused : (count n before now : ℕ) (r : Result (Unit {0}) OpenFault) (f : OpenFault) → r ≡ Err f → AcceptedBy count n before now r → AcceptedBy count n before now (Err f)
was_refused count n before now r f is a = subst (λ (x : Result (Unit {0}) OpenFault). AcceptedBy count n before now x) is a

pub all_accepted : (count n before now : ℕ) (r : Result (Unit {0}) OpenFault) (u : Unit {0}) → r ≡ Ok u → AcceptedBy count n before now r → (n ≡ count) × (now ≡ before)
all_accepted count n before now r u is a = subst (λ (x : Result (Unit {0}) OpenFault). AcceptedBy count n before now x) is a
