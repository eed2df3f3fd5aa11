-- Guests that are accepted one by one, and kept the other way round.
use Rattle.std.proofs.Common.{◌≡◌, ℕ, suc, ◌+◌, ◌-◌, ◌<◌, ◌≤◌, List, [], ◌∷◌, ◌++◌, length, reverse, map, Result, Ok, Err, refl, sym, ap, ◌∙◌, subst, arith, append_assoc, append-nil, length-append}
use Rattle.std.specs.Prelude.{All, true}
use Rattle.std.proofs.lemmas.List.{length-reverse, reverse-append, reverse-reverse, length-map}
use Rattle.std.proofs.lemmas.List.Elements.{All-nil, All-cons, All-head, All-rest, All-map, All-weaker}
use Rattle.sock_io.specs.declared.link.OpenFault.{OpenFault}
use Rattle.sock_io.specs.declared.link.OpenFault.TheVariants as open_
use Rattle.sock_io.specs.FaultCauses.{Rose}
use Rattle.sock_io.specs.LinkHalves.{OutState, InState, LinkerState}
use Rattle.serve_port.specs.declared.connection.Connection.{Connection}
use Rattle.serve_port.specs.declared.service.ServeFault.{ServeFault}
use Rattle.serve_port.specs.declared.service.ServeFault.TheVariants as fault_
use Rattle.serve_port.specs.ServingConnections.{ServedConnection, IsServed, IsEndOfFinished, GivesBackFinished, AnswersBy, ServesConnections}
use Rattle.serve_port.specs.ServiceSteps.{AcceptedBy, AcceptsRest, AcceptsBeside, HasServed, IsFinished, as_served}

module _ {G : Type 0} (served : G → Type 0) where
  -- none
  pub accepts_none : (count : ℕ) (old : LinkerState) (kept : List G) → count ≡ 0 → AcceptsRest served count old old kept kept (Ok tt)
  accepts_none count old kept none = record {
    news = [];
    stacked = sym (append-nil kept);
    few = omega arith;
    each = All-nil served;
    links = let e : old.accepted ≡ old.accepted + 0 = omega arith in λ i. record old { accepted = e i };
    answer = (sym none, refl);
  }

  -- an accept failed
  pub accepts_failed : (count : ℕ) (old new : LinkerState) (kept kept' : List G) (fault : OpenFault) → new ≡ record old { faults = new.faults } → kept' ≡ kept
      → (fault ≡ open_.Failed → Rose old.faults new.faults) → (fault ≡ open_.NoMemory → new.faults ≡ old.faults) → AcceptsRest served count old new kept kept' (Err fault)
  accepts_failed count old new kept kept' fault same k failed short = record {
    news = [];
    stacked = k ∙ sym (append-nil kept);
    few = omega arith;
    each = All-nil served;
    links = same ∙ (let e : old.accepted ≡ old.accepted + 0 = omega arith in λ i. record old { accepted = e i; faults = new.faults });
    answer = by fault failed short;
  }
    where
      by : (f : OpenFault) → (f ≡ open_.Failed → Rose old.faults new.faults) → (f ≡ open_.NoMemory → new.faults ≡ old.faults) → AcceptedBy count 0 old.faults new.faults (Err f)
      by open_.Failed a b = a refl
      by open_.NoMemory a b = b refl

  one_more : (count n before now : ℕ) (r : Result (Unit {0}) OpenFault) → 0 < count → AcceptedBy (count - 1) n before now r → AcceptedBy count (suc n) before now r
  one_more count n before now (Ok u) some a = let e = a.0 in (omega (arith, some, e), a.1)
  one_more count n before now (Err open_.Failed) some a = a
  one_more count n before now (Err open_.NoMemory) some a = a

  -- one was accepted, and the others behind it
  pub accepts_more : (count : ℕ) (old mid new : LinkerState) (kept mid_kept kept' : List G) (r : Result (Unit {0}) OpenFault) → 0 < count → mid ≡ record old { accepted = old.accepted + 1 } → mid_kept ≡ kept
      → AcceptsBeside served (count - 1) mid new mid_kept kept' r → AcceptsRest served count old new kept kept' r
  accepts_more count old mid new kept mid_kept kept' r some m k a =
      let o = a.others in record {
        news = a.guest ∷ o.news;
        stacked = a.last ∙ ap (λ l. l ++ a.guest ∷ []) (o.stacked ∙ ap (λ l. l ++ reverse o.news) k) ∙ append_assoc kept (reverse o.news) (a.guest ∷ []) ∙ ap (λ l. kept ++ l) (sym (reverse-append (a.guest ∷ []) o.news));
        few = let f = o.few in omega (arith, some, f);
        each = All-cons served a.guest o.news a.is_served o.each;
        links = o.links ∙ (let x = ap (λ (s : LinkerState). s.accepted) m in let e : mid.accepted + length o.news ≡ old.accepted + length (a.guest ∷ o.news) = omega (arith, x) in
            λ i. record (m i) { accepted = e i; faults = new.faults });
        answer = subst (λ f. AcceptedBy count (suc (length o.news)) f new.faults r) (ap (λ (s : LinkerState). s.faults) m) (one_more count (length o.news) mid.faults new.faults r some o.answer);
      }

  -- how many are kept then
  pub kept_few : (count : ℕ) (old new : LinkerState) (kept kept' : List G) (r : Result (Unit {0}) OpenFault) → AcceptsRest served count old new kept kept' r → length kept' ≤ length kept + count
  kept_few count old new kept kept' r a = let f = a.few in omega (arith, ap length a.stacked, length-append kept (reverse a.news), length-reverse a.news, f)

  pub beside : (count : ℕ) (old mid new : LinkerState) (kept mid_kept kept' : List G) (guest : G) (r : Result (Unit {0}) OpenFault) → served guest → AcceptsRest served count old mid kept mid_kept r → new ≡ mid → kept' ≡ mid_kept ++ guest ∷ []
      → AcceptsBeside served count old new kept kept' r
  beside count old mid new kept mid_kept kept' guest r is a links last = record { guest = guest; stack = mid_kept; is_served = is; last = last; others = subst (λ s. AcceptsRest served count old s kept mid_kept r) (sym links) a }

  pub from_none : (count : ℕ) (old new : LinkerState) (kept kept' : List G) (r : Result (Unit {0}) OpenFault) → kept ≡ [] → AcceptsRest served count old new kept kept' r → AcceptsRest served count old new [] kept' r
  from_none count old new kept kept' r e a = subst (λ (l : List G). AcceptsRest served count old new l kept' r) e a

  -- turned round they stand in the order in which they were accepted
  pub in_order : (count : ℕ) (old new : LinkerState) (kept : List G) (r : Result (Unit {0}) OpenFault) → (a : AcceptsRest served count old new [] kept r) → reverse kept ≡ a.news
  in_order count old new kept r a = ap reverse a.stacked ∙ reverse-reverse a.news

  pub turned_served : (count : ℕ) (old new : LinkerState) (kept turned : List G) (r : Result (Unit {0}) OpenFault) → AcceptsRest served count old new [] kept r → turned ≡ reverse kept → All served turned
  turned_served count old new kept turned r a t = subst (All served) (sym (t ∙ in_order count old new kept r a)) a.each

-- all were given back in that order
module _ {G : Type 0} (served : G → Type 0) (f : G → ServedConnection) (is : (x : G) → served x → IsServed (f x)) where
  all_are : (xs : List G) → All served xs → All IsServed (map f xs)
  all_are xs a = All-map IsServed f xs (All-weaker served (λ x. IsServed (f x)) is xs a)

  pub all_served : (count : ℕ) (old mid new : LinkerState) (kept turned : List G) (r : Result (Unit {0}) OpenFault) (result : Result ℕ ServeFault) → AcceptsRest served count old mid [] kept r → turned ≡ reverse kept
      → new ≡ record mid { done = mid.done ++ map (λ (s : ServedConnection). s.connection) (map f turned) }
      → (AcceptedBy count (length (map f turned)) old.faults mid.faults r → AnswersBy count old.faults mid.faults (map f turned) result) → ServesConnections count old new result
  all_served count old mid new kept turned r result a t n answers =
      let same : turned ≡ a.news = t ∙ in_order served count old mid kept r a in
      let long : length (map f turned) ≡ length a.news = length-map turned f ∙ ap length same in
      let faults : new.faults ≡ mid.faults = ap (λ (s : LinkerState). s.faults) n in record {
        served = map f turned;
        few = let w = a.few in omega (arith, w, long);
        each = subst (λ l. All IsServed (map f l)) (sym same) (all_are a.news a.each);
        links = n ∙ (λ i. record (a.links i) {
          accepted = (ap (λ (s : LinkerState). s.accepted) a.links ∙ (let e : old.accepted + length a.news ≡ old.accepted + length (map f turned) = omega (arith, long) in e)) i;
          done = ap (λ (s : LinkerState). s.done) a.links i ++ map (λ (s : ServedConnection). s.connection) (map f turned);
          faults = sym faults i;
        });
        answer = subst (λ k. AnswersBy count old.faults k (map f turned) result) (sym faults) (answers (subst (λ k. AcceptedBy count k old.faults mid.faults r) (sym long) a.answer));
      }

-- none was accepted
pub none_served : (count : ℕ) (s : LinkerState) → ServesConnections count s s (Err fault_.NoMemory)
none_served count s = record {
  served = [];
  few = omega arith;
  each = All-nil IsServed;
  links = let e : s.accepted ≡ s.accepted + 0 = omega arith in λ i. record s { accepted = e i; done = sym (append-nil s.done) i };
  answer = (refl, refl, refl);
}

-- ## Finished

module _ {O I : Type 0} (out : O → OutState) (inn : I → InState) where
  pub all_finished : (turned : List (Connection O I)) → All (HasServed out inn) turned → All (IsFinished out) turned
  all_finished turned a = All-weaker (HasServed out inn) (IsFinished out) (λ c h. h.finished) turned a

  pub given_finished : (turned : List (Connection O I)) (old new : LinkerState) → All (IsFinished out) turned → new.done ≡ old.done ++ map (λ (s : ServedConnection). s.connection) (map (as_served out inn) turned) → GivesBackFinished out inn old new
  given_finished turned old new a e = record {
    given = map (λ (s : ServedConnection). s.connection) (map (as_served out inn) turned);
    last = e;
    each = All-map (IsEndOfFinished out inn) (λ (s : ServedConnection). s.connection) (map (as_served out inn) turned)
        (All-map (λ (s : ServedConnection). IsEndOfFinished out inn s.connection) (as_served out inn) turned
        (All-weaker (IsFinished out) (λ c. IsEndOfFinished out inn (as_served out inn c).connection) (λ c h. record { out = c.out; inn = c.inn; is_end = refl; finished = h }) turned a));
  }

  pub accepted_finished : (count : ℕ) (old mid new : LinkerState) (kept turned : List (Connection O I)) (r : Result (Unit {0}) OpenFault) → AcceptsRest (HasServed out inn) count old mid [] kept r → turned ≡ reverse kept
      → new ≡ record mid { done = mid.done ++ map (λ (s : ServedConnection). s.connection) (map (as_served out inn) turned) } → GivesBackFinished out inn old new
  accepted_finished count old mid new kept turned r a t n =
      given_finished turned old new (all_finished turned (turned_served (HasServed out inn) count old mid kept turned r a t))
      (ap (λ (s : LinkerState). s.done) n ∙ ap (λ (s : LinkerState). s.done ++ map (λ (x : ServedConnection). x.connection) (map (as_served out inn) turned)) a.links)

  pub none_given : (s : LinkerState) → GivesBackFinished out inn s s
  none_given s = record { given = []; last = sym (append-nil s.done); each = All-nil (IsEndOfFinished out inn) }

  -- the next one, and those behind it
  pub next_finished : (left rest : List (Connection O I)) (c : Connection O I) → All (IsFinished out) left → left ≡ c ∷ rest → (out c.out).finished ≡ true
  next_finished left rest c a e = All-head (IsFinished out) c rest (subst (All (IsFinished out)) e a)

  pub rest_finished : (left rest : List (Connection O I)) (c : Connection O I) → All (IsFinished out) left → left ≡ c ∷ rest → All (IsFinished out) rest
  rest_finished left rest c a e = All-rest (IsFinished out) c rest left e a
