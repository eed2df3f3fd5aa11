-- How `serve` ends, by what its call says.
use Rattle.std.proofs.Common.{◌≡◌, ℕ, ◌⊎◌, inl, inr, Bool, true, false, ◌&&◌, ◌||◌, List, [], ◌∷◌, ◌++◌, map, Result, Ok, refl, ap, ◌∙◌, subst, arith}
use Rattle.serve_port.specs.declared.service.ServiceEnd.{ServiceEnd}
use Rattle.serve_port.specs.declared.service.ServiceEnd.TheVariants as end_
use Rattle.serve_port.specs.declared.service.ServeFault.{ServeFault}
use Rattle.sock_io.specs.LinkHalves.{LinkerState}
use Rattle.serve_port.specs.ServingConnections.{ServedConnection, ServesConnections, is_failing, is_faulty, is_whole, any_failing, any_faulty, all_whole}
use Rattle.brpc_eng.specs.ProgramAnswers.{Output, Links, TextWritten, WroteNothing, ServeEnds, ServedWhole, ServeRanOut, ServedPort, served_text}

pub served_written : (out : Output) (count frames status : ℕ) (text : List ℕ) → text ≡ served_text count frames → TextWritten out text status → TextWritten out (served_text count frames) status ⊎ ((status ≡ 7) × WroteNothing out)
served_written out count frames status text e w = inl (subst (λ x. TextWritten out x status) e w)

-- ## Those that were served whole had no fault

both_true : (a b : Bool) → (a && b) ≡ true → (a ≡ true) × (b ≡ true)
both_true true b e = (refl, e)
both_true false b e = absurd (cc)

none_true : (a b : Bool) → a ≡ false → b ≡ false → (a || b) ≡ false
none_true a b e f = ap (λ x. x || b) e ∙ f

whole_fine : (e : ServiceEnd) → is_whole e ≡ true → is_failing e ≡ false
whole_fine end_.AtEnd w = refl
whole_fine end_.AtLimit w = refl
whole_fine end_.AtFault w = refl
whole_fine end_.TakeFailed w = absurd (cc)
whole_fine end_.PutFailed w = absurd (cc)
whole_fine end_.NoMemory w = refl

whole_clean : (e : ServiceEnd) → is_whole e ≡ true → is_faulty e ≡ false
whole_clean end_.AtEnd w = refl
whole_clean end_.AtLimit w = refl
whole_clean end_.AtFault w = absurd (cc)
whole_clean end_.TakeFailed w = refl
whole_clean end_.PutFailed w = refl
whole_clean end_.NoMemory w = refl

none_failing : (served : List ServedConnection) → all_whole served ≡ true → any_failing served ≡ false
none_failing [] w = refl
none_failing (s ∷ ss) w = let b = both_true (is_whole s.service.end) (all_whole ss) w in none_true (is_failing s.service.end) (any_failing ss) (whole_fine s.service.end b.0) (none_failing ss b.1)

none_faulty : (served : List ServedConnection) → all_whole served ≡ true → any_faulty served ≡ false
none_faulty [] w = refl
none_faulty (s ∷ ss) w = let b = both_true (is_whole s.service.end) (all_whole ss) w in none_true (is_faulty s.service.end) (any_faulty ss) (whole_clean s.service.end b.0) (none_faulty ss b.1)

-- ## The endings

module _ (count : ℕ) (old new : LinkerState) (asked : old.asked ≡ []) (back : old.back ≡ []) (accepted : old.accepted ≡ 0) (done : old.done ≡ []) (out : Output) (links : Links) (status : ℕ)
    (same_asked : links.asked ≡ new.asked) (same_back : links.ends ≡ new.back) (same_accepted : links.accepted ≡ new.accepted) (same_done : links.done ≡ new.done) where
  module _ (r : Result ℕ ServeFault) (s : ServesConnections count old new r) where
    pub port_of : ServeEnds count s.served out links status → ServedPort count out links status
    port_of ends = record {
      served = s.served;
      few = s.few;
      each = s.each;
      accepted = let e = ap (λ (l : LinkerState). l.accepted) s.links in omega (arith, same_accepted, e, accepted);
      given_back = same_done ∙ ap (λ (l : LinkerState). l.done) s.links ∙ ap (λ l. l ++ map (λ (x : ServedConnection). x.connection) s.served) done;
      none_opened = (same_asked ∙ ap (λ (l : LinkerState). l.asked) s.links ∙ asked, same_back ∙ ap (λ (l : LinkerState). l.back) s.links ∙ back);
      ended = ends;
    }

  pub port_whole : (frames : ℕ) → ServesConnections count old new (Ok frames) → TextWritten out (served_text count frames) status ⊎ ((status ≡ 7) × WroteNothing out) → ServedPort count out links status
  port_whole frames s (inl w) = port_of (Ok frames) s (ServedWhole s.answer.0 s.answer.1 (subst (λ n. TextWritten out (served_text count n) status) s.answer.2 w))
  port_whole frames s (inr w) = port_of (Ok frames) s (ServeRanOut w.0 (none_failing s.served s.answer.1) (none_faulty s.served s.answer.1) w.1)
