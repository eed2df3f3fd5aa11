-- Takes, one behind another.
use Rattle.std.proofs.Common.{◌≡◌, ℕ, ◌+◌, ◌<◌, ◌≤◌, Bool, true, false, List, [], ◌∷◌, ◌++◌, length, take, Some, None, inl, inr, ⊎_elim, refl, sym, ap, ◌∙◌, subst, arith, append-nil, length-append}
use Rattle.std.specs.Prelude.{Option}
use Rattle.std.proofs.lemmas.Grind.{flat_map-append}
use Rattle.std.proofs.lemmas.List.{length-take-le}
use Rattle.brpc_model.specs.Frame.{NoneYet, judged}
use Rattle.sock_io.specs.LinkHalves.{InState, TakeStep, given_of}
use Rattle.sock_io.specs.declared.link.Take.{Take}
use Rattle.sock_io.specs.declared.link.Take.TheVariants as take_
use Rattle.rpc_reader.specs.declared.reading.How.{How}
use Rattle.rpc_reader.specs.declared.reading.How.TheVariants as how
use Rattle.rpc_reader.specs.declared.reading.Intake.{Intake}
use Rattle.rpc_reader.specs.ReaderBooks.{Books}
use Rattle.rpc_reader.specs.Met.{MetAll}
use Rattle.rpc_reader.specs.ReadingTakeByTake.{Took, Takes, GoOn, goes_on, piece_of, bytes_of}
use Rattle.rpc_reader.specs.LinkReading.{LIMIT, held_by, EndsFed, EndsBy, FedIn, TookIn, ReadOnce, ReadOn, ReadBy}
use Rattle.rpc_reader.specs.Throwing.{ThrewBy, ThrewOnce, ThrewOn, ThrewAway}
use Rattle.rpc_reader.proofs.FramesMetInTurn.{met_none, met_same, met_then}

pub takes_more : (xs : List Took) (x : Took) (s m t : InState) → Takes xs s m → TakeStep m t x.room x.answer → Takes (xs ++ x ∷ []) s t
takes_more [] x s m t a step = (t, subst (λ (n : InState). TakeStep n t x.room x.answer) a step, refl)
takes_more (y ∷ ys) x s m t a step = (a.0, a.1, takes_more ys x a.0 m t a.2 step)

pub on_more : (ending : Bool) (xs : List Took) (x : Took) → GoOn ending xs → goes_on ending x.answer ≡ true → GoOn ending (xs ++ x ∷ [])
on_more ending [] x a e = (e, tt)
on_more ending (y ∷ ys) x a e = (a.0, on_more ending ys x a.1 e)

pub bytes_more : (xs : List Took) (x : Took) → bytes_of (xs ++ x ∷ []) ≡ bytes_of xs ++ piece_of x
bytes_more xs x = flat_map-append piece_of xs (x ∷ []) ∙ ap (λ l. bytes_of xs ++ l) (append-nil (piece_of x))

sized_more : (xs : List Took) (x : Took) (n m total : ℕ) → total ≡ n + length (bytes_of xs) → m ≡ total + length (piece_of x) → m ≡ n + length (bytes_of (xs ++ x ∷ []))
sized_more xs x n m total a b = omega (arith, a, b, ap length (bytes_more xs x), length-append (bytes_of xs) (piece_of x))

sized_all : (xs : List Took) (x : Took) (m total : ℕ) → total ≡ length (bytes_of xs) → m ≡ total + length (piece_of x) → m ≡ length (bytes_of (xs ++ x ∷ []))
sized_all xs x m total a b = omega (arith, a, b, ap length (bytes_more xs x), length-append (bytes_of xs) (piece_of x))

pub fed_ends : (ending : Bool) (how : How) (answer : Take) (left : List ℕ) (total : ℕ) → EndsFed how left total → EndsBy ending how answer left total
fed_ends ending how.End answer left total e = absurd e
fed_ends ending how.Closed answer left total e = absurd e
fed_ends ending how.Failed answer left total e = absurd e
fed_ends ending how.Empty answer left total e = absurd e
fed_ends ending how.Limit answer left total e = e
fed_ends ending how.Fault answer left total e = e
fed_ends ending how.NoMemory answer left total e = e

pub fed_took : (slots : ℕ) (ending : Bool) (answer : Take) (piece : List ℕ) (result : Option How) (i i' : Intake) (b b' : Books) → goes_on ending answer ≡ true → FedIn slots piece result i i' b b' → TookIn slots ending answer piece result i i' b b'
fed_took slots ending answer piece None i i' b b' e f = (f.0, f.1, f.2, e)
fed_took slots ending answer piece (Some h) i i' b b' e f = (f.0, f.1, fed_ends ending h answer f.0 i'.total f.2)

module _ (slots : ℕ) (ending : Bool) (s : InState) (b : Books) where
  pub read_none : (i : Intake) → held_by i ≡ [] → i.total ≡ 0 → judged [] ≡ NoneYet → ReadOn slots ending s s i b b
  read_none i e z none_ = record {
    takes = [];
    on = tt;
    steps = refl;
    total = z;
    met = subst (λ (l : List ℕ). MetAll slots [] l b b) (sym e) (met_none slots [] b);
    waits = ap judged e ∙ none_;
    below = (let y = z in omega arith);
  }

  module _ (m t : InState) (i i' : Intake) (c d : Books) (r : ReadOn slots ending s m i b c) where
    pub read_more : ReadOnce slots ending None m t i i' c d → ReadOn slots ending s t i' b d
    read_more o = record {
      takes = r.takes ++ o.last ∷ [];
      on = on_more ending r.takes o.last r.on o.by.3;
      steps = takes_more r.takes o.last s m t r.steps o.step;
      total = sized_all r.takes o.last i'.total i.total r.total o.total;
      met = subst (λ (l : List ℕ). MetAll slots l (held_by i') b d) (sym (bytes_more r.takes o.last)) (met_then slots (bytes_of r.takes) (held_by i) (piece_of o.last) (held_by i') b c d r.met o.by.0);
      waits = o.by.1;
      below = o.by.2;
    }

    pub read_last : (h : How) → ReadOnce slots ending (Some h) m t i i' c d → ReadBy slots ending h s t i'.total b d
    read_last h o = record {
      earlier = r.takes;
      on = r.on;
      last = o.last;
      steps = takes_more r.takes o.last s m t r.steps o.step;
      left = o.by.0;
      met = subst (λ (l : List ℕ). MetAll slots l o.by.0 b d) (sym (bytes_more r.takes o.last)) (met_then slots (bytes_of r.takes) (held_by i) (piece_of o.last) o.by.0 b c d r.met o.by.1);
      all = sized_all r.takes o.last i'.total i.total r.total o.total;
      few = o.few;
      ends = o.by.2;
    }

module _ (ending : Bool) (total : ℕ) (s : InState) where
  pub threw_none : total < LIMIT → ThrewOn ending total total s s
  threw_none lt = record { takes = []; on = tt; steps = refl; total_is = omega arith; below = lt }

  module _ (m t : InState) (now then_ : ℕ) (r : ThrewOn ending total now s m) where
    pub threw_more : ThrewOnce ending false m t now then_ → ThrewOn ending total then_ s t
    threw_more o = record {
      takes = r.takes ++ o.last ∷ [];
      on = on_more ending r.takes o.last r.on o.by.0;
      steps = takes_more r.takes o.last s m t r.steps o.step;
      total_is = sized_more r.takes o.last total then_ now r.total_is o.total_is;
      below = o.by.1;
    }

    pub threw_last : ThrewOnce ending true m t now then_ → ThrewAway ending total s t
    threw_last o = let e = sized_more r.takes o.last total then_ now r.total_is o.total_is in inr record {
      earlier = r.takes;
      on = r.on;
      last = o.last;
      steps = takes_more r.takes o.last s m t r.steps o.step;
      few = (let f = o.few in omega arith);
      ends = ⊎_elim (λ x. inl x) (λ x. inr (sym e ∙ x)) o.by;
    }

-- ## One take

module _ (ending : Bool) (s t : InState) (room : List ℕ) where
  -- bytes that are thrown away
  pub threw_bytes : (n total : ℕ) (b : Bool) → TakeStep s t room (take_.Took n) → total + length room ≤ LIMIT → (b ≡ true → LIMIT ≤ total + n) → (b ≡ false → total + n < LIMIT) → ThrewOnce ending b s t total (total + n)
  threw_bytes n total b step few full below = let e : length (take n room) ≡ n = length-take-le n room step.count.1 in let within = step.count.1 in record {
    last = record { room = room; answer = take_.Took n };
    step = step;
    total_is = omega arith;
    few = omega arith;
    by = by b full below;
  }
    where
      by : (b : Bool) → (b ≡ true → LIMIT ≤ total + n) → (b ≡ false → total + n < LIMIT) → ThrewBy ending b (take_.Took n) (total + n)
      by true f g = let h = f refl in let within = step.count.1 in inr (omega arith)
      by false f g = (refl, g refl)

  -- nothing came
  pub threw_nothing : (answer : Take) (total : ℕ) (b : Bool) → TakeStep s t room answer → given_of room answer ≡ [] → total ≤ LIMIT → ThrewBy ending b answer total → ThrewOnce ending b s t total total
  threw_nothing answer total b step none_ few by = record {
    last = record { room = room; answer = answer };
    step = step;
    total_is = (let e = ap length none_ in omega arith);
    few = few;
    by = by;
  }

  module _ (slots : ℕ) (i : Intake) (b : Books) where
    -- bytes that were fed
    pub read_bytes : (n : ℕ) (piece : List ℕ) (result : Option How) (i' : Intake) (b' : Books) → TakeStep s t room (take_.Took n) → piece ≡ take n room → i'.total ≡ i.total + length piece → i.total + length room ≤ LIMIT → FedIn slots piece result i i' b b' → ReadOnce slots ending result s t i i' b b'
    read_bytes n piece result i' b' step is total few fed = let e : length (take n room) ≡ n = length-take-le n room step.count.1 in let within = step.count.1 in let same = ap length is in record {
      last = record { room = room; answer = take_.Took n };
      step = step;
      total = total ∙ ap (λ l. i.total + length l) is;
      few = omega arith;
      by = fed_took slots ending (take_.Took n) (take n room) result i i' b b' refl (subst (λ (l : List ℕ). FedIn slots l result i i' b b') is fed);
    }

    pub read_nothing : (answer : Take) → TakeStep s t room answer → given_of room answer ≡ [] → i.total < LIMIT → judged (held_by i) ≡ NoneYet → goes_on ending answer ≡ true → ReadOnce slots ending None s t i i b b
    read_nothing answer step none_ lt waits on = record {
      last = record { room = room; answer = answer };
      step = step;
      total = (let e = ap length none_ in omega arith);
      few = omega arith;
      by = subst (λ (l : List ℕ). TookIn slots ending answer l None i i b b) (sym none_) (met_same slots (held_by i) b, waits, lt, on);
    }

    pub read_end : (answer : Take) (h : How) → TakeStep s t room answer → given_of room answer ≡ [] → i.total < LIMIT → EndsBy ending h answer (held_by i) i.total → ReadOnce slots ending (Some h) s t i i b b
    read_end answer h step none_ lt ends = record {
      last = record { room = room; answer = answer };
      step = step;
      total = (let e = ap length none_ in omega arith);
      few = omega arith;
      by = subst (λ (l : List ℕ). TookIn slots ending answer l (Some h) i i b b) (sym none_) (held_by i, met_same slots (held_by i) b, ends);
    }
