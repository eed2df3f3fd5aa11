-- C8: the request of the entry that was written is given back.
use Rattle.std.proofs.Common.{◌≡◌, ◌≢◌, ℕ, suc, ◌+◌, ◌*◌, ◌<◌, ◌≤◌, List, [], ◌∷◌, length, sym, refl, ap, ◌∙◌, subst, arith}
use mathlib.Core.Logic.{dite}
use mathlib.Core.Option.{some, some-injective}
use native.Mathlib.Decide.{ℕ_discrete}
use lib.ListN.{get_elem?}
use Rattle.sock_model.specs.declared.chain.Entry.{Entry}
use Rattle.sock_model.specs.Entries.{ticket, on, nth}
use Rattle.sock_model.specs.declared.chain.Stage.{Stage}
use Rattle.sock_model.specs.declared.chain.Right.{Right}
use Rattle.sock_model.specs.declared.chain.Stage.TheVariants.{Writes, Placed, Passes, Empties}
use Rattle.sock_model.specs.ChainTokens.{Tokens}
use Rattle.sock_model.specs.ChainMemory.{Memory}
use Rattle.sock_model.specs.LinkWritingState.{Counts, InStage, Held, Standing, busy}
use Rattle.sock_model.specs.RequestStates.{UsedRequest, free_phase, claimed_phase, used_phase, retired_phase, InUse}
use Rattle.sock_model.specs.Chains.{Chains}
use Rattle.chain_steps.proofs.TicketLists.{nth_some, nth_same, Distinct}
use Rattle.chain_steps.proofs.UntouchedByChainSteps.{Same, Changed, no_token, in_size, on_distinct, points_frame, live_same, standing_frame, in_use_frame}
use Rattle.chain_steps.proofs.Claims.{used_word}
use Rattle.chain_steps.proofs.ChainHeadSteps.{slot_is, held_of}
use Rattle.sock_model.specs.sock_words.specs.PackedWords.{ticket_request, ticket_generation}

pub generation_is : (e : Entry) → e.request < 65535 → e.generation < 140737488355328 → ticket_generation (ticket e) ≡ e.generation
generation_is e h small = omega arith

-- the stage after the entry `now` was written and its request given back
pub data Leads (last : ℕ) : Stage → ℕ → Stage → Type 0 where
  to_end : (now : ℕ) → now ≡ last → Leads last (Placed now) now Empties
  to_next : (now next : ℕ) → Leads last (Passes now next) now (Writes next)

-- the first entry whose request is taken has its place
pub record First (c : List Entry) (n : Counts) (freed places now : ℕ) : Type 0 where
  pub noted : freed < n.noted
  pub places_is : places ≡ suc freed
  pub now_is : nth c (suc freed) ≡ now

first : (m : Memory) (t : Tokens) (c : List Entry) (n : Counts) (freed places last now : ℕ) (a b : Stage) → Leads last a now b → InStage m t c n freed places a → First c n freed places now
first m t c n freed places last now a b (to_end x e) h = record { noted = h.2; places_is = h.1; now_is = h.3 }
first m t c n freed places last now a b (to_next x y) h = record { noted = (let k = h.2 in omega arith); places_is = h.1; now_is = h.3 }

after_free : (m m' : Memory) (t t' : Tokens) (c : List Entry) (n : Counts) (freed places last now : ℕ) (a b : Stage) → Leads last a now b → Distinct ticket c → n.noted ≤ length c → nth c n.noted ≡ last
    → InStage m t c n freed places a → InStage m' t' c n (suc freed) places b
after_free m m' t t' c n freed places last now a b (to_end x e) d f is h = let k = h.2 in (h.0, h.1, nth_same c d (suc freed) n.noted (omega arith) f (h.3 ∙ (e ∙ sym is)))
after_free m m' t t' c n freed places last now a b (to_next x y) d f is h = (h.0, h.1, h.2, h.4)

module _ {links requests : ℕ} {m : Memory} {t : Tokens} {log : List Entry} {freed places : ℕ → ℕ} (s : Chains links requests m t log freed places) (k : ℕ) (r : Right) (kl : k < links) (has : t.rights k ≡ r ∷ []) (narrow : requests ≤ 65535)
    (now : ℕ) (b : Stage) (leads : Leads r.last r.stage now b) where
  held : Held m t (on k log) (freed k) (places k) r
  held = (held_of s k r kl has).1

  fits : First (on k log) held.counts (freed k) (places k) now
  fits = first m t (on k log) held.counts (freed k) (places k) r.last now r.stage b leads held.stage_is

  it : (e : Entry) × (get_elem? (on k log) (freed k) ≡ some e) × (nth (on k log) (suc (freed k)) ≡ ticket e)
  it = let f = held.fits in let n = fits.noted in nth_some (on k log) (freed k) (omega arith)

  size : (k < links) × (it.0.request < requests) × (it.0.generation < 140737488355328)
  size = in_size s k (freed k) it.0 it.1

  slot : ticket_request now ≡ it.0.request
  slot = let z = size.1 in ap ticket_request (sym fits.now_is ∙ it.2) ∙ slot_is it.0 (omega arith)

  pub now_slot : ticket_request now < requests
  now_slot = let z = size.1 in let q = slot in omega arith

  its_generation : ticket_generation now ≡ it.0.generation
  its_generation = let z = size.1 in ap ticket_generation (sym fits.now_is ∙ it.2) ∙ generation_is it.0 (omega arith) size.2

  pub now_small : ticket_generation now < 140737488355328
  now_small = let z = size.2 in let q = its_generation in omega arith

  -- the request of `now` is given back by no other entry
  other : (j i : ℕ) (d : Entry) → freed j ≤ i → get_elem? (on j log) i ≡ some d → (j ≡ k → i ≢ freed k) → d.request ≢ it.0.request
  other j i d late g ne same = let z = live_same s j i d k (freed k) it.0 late g (omega arith) it.1 same in ne z.0 z.1

  free_word : (u : InUse m t log freed it.0.request) → it.0.generation < 140737488355327 → (u.times ≡ suc it.0.generation) × (t.loose it.0.request ≡ []) × (t.claims it.0.request ≡ []) × (u.generation ≡ it.0.generation)
  free_word u small =
      let w = s.live k (freed k) it.0 (omega arith) it.1 in
      let loose : t.loose it.0.request ≡ [] = ((held.points (freed k) it.0 (omega arith) it.1).written fits.noted).0 in
      let is : UsedRequest m t log freed it.0.request u.generation u.times → u.generation ≡ it.0.generation = λ v. let a = (used_word s it.0.request u.generation u.times v).0 in let z = v.generation_is in let y = w.0 in omega arith in
      elim u.phase [
        | free_phase v ↦ (let z = v.word in let y = w.0 in absurd (omega arith))
        | claimed_phase v ↦ absurd (no_token (t.claims it.0.request) v.claim v.claimed w.1)
        | used_phase v ↦ (v.used ∙ ap suc (is v), loose, w.1, is v)
        | retired_phase v ↦ (let z = v.word in let y = w.0 in let l = v.last in absurd (omega arith))
      ]

  module _ (m' : Memory) (t' : Tokens) (freed' : ℕ → ℕ) (fr : Changed links freed freed' k (suc (freed k))) where
    -- what is late by the new counts was late by the old ones, and is another entry
    later : (j i : ℕ) (d : Entry) → freed' j ≤ i → get_elem? (on j log) i ≡ some d → (freed j ≤ i) × (d.request ≢ it.0.request)
    later j i d late g = dite (ℕ_discrete j k)
        (λ same. let a : freed' j ≡ suc (freed k) = ap freed' same ∙ fr.here in let b : freed j ≡ freed k = ap freed same in
        let late' : freed j ≤ i = omega arith in (late', other j i d late' g (λ z y. omega arith)))
        (λ ne. let a = fr.else j (in_size s j i d g).0 ne in let late' : freed j ≤ i = omega arith in (late', other j i d late' g (λ z. absurd (ne z))))

    -- an entry with another request stays late
    keeps : (j i : ℕ) (d : Entry) → freed j ≤ i → get_elem? (on j log) i ≡ some d → d.request ≢ it.0.request → freed' j ≤ i
    keeps j i d late g ne = dite (ℕ_discrete j k)
        (λ same. let a : freed' j ≡ suc (freed k) = ap freed' same ∙ fr.here in let b : freed j ≡ freed k = ap freed same in
        let apart : i ≢ freed k = λ z. ne (ap (λ (y : Entry). y.request) (some-injective d it.0 (sym g ∙ ((λ w. get_elem? (on (same w) log) (z w)) ∙ it.1)))) in omega arith)
        (λ far. let a = fr.else j (in_size s j i d g).0 far in omega arith)

    -- the right goes on; the words of other requests stay, and the request itself is what `used` says of it
    passes : (r' : Right) → r'.last ≡ r.last → r'.turned ≡ r.turned → r'.noted ≡ r.noted → r'.stage ≡ b → Same links m.head m'.head → Same requests m.next m'.next
        → ((q : ℕ) → q < requests → q ≢ it.0.request → m'.request q ≡ m.request q)
        → Changed links t.rights t'.rights k (r' ∷ []) → Same requests t.claims t'.claims → Same requests t.loose t'.loose → InUse m' t' log freed' it.0.request
        → Chains links requests m' t' log freed' places
    passes r' last' turned' noted' stage' hd nx words rt cl lo used =
        let c = on k log in let n = held.counts in let f = held.fits in
        let new : Held m' t' c (suc (freed k)) (places k) r' = record {
          counts = n;
          some_noted = held.some_noted;
          fits = (fits.noted, f.1, f.2, f.3);
          turned_is = held.turned_is ∙ ap (λ y. n.left + y) (sym turned');
          noted_is = held.noted_is ∙ sym noted';
          last_is = held.last_is ∙ sym last';
          stage_is = subst (InStage m' t' c n (suc (freed k)) (places k)) (sym stage') (after_free m m' t t' c n (freed k) (places k) r.last now r.stage b leads (on_distinct s k) (omega arith) held.last_is held.stage_is);
          points = λ i d late g. let z = in_size s k i d g in points_frame m m' t t' c n i d (m.next d.request) (m'.next d.request) (t.loose d.request) (t'.loose d.request) (nx d.request z.1) (lo d.request z.1) (held.points i d (omega arith) g);
        } in record {
          chained = s.chained;
          differ = s.differ;
          sized = s.sized;
          standing = λ j jl. dite (ℕ_discrete j k)
              (λ same. subst (λ q. Standing m' t' q (on q log) (freed' q) (places q)) (sym same)
              (subst (λ q. Standing m' t' k c q (places k)) (sym fr.here) (busy r' (hd k kl ∙ (held_of s k r kl has).0) rt.here new)))
              (λ ne. subst (λ q. Standing m' t' j (on j log) q (places j)) (sym (fr.else j jl ne))
              (standing_frame m m' t t' j (on j log) (freed j) (places j) (hd j jl) (rt.else j jl ne) (λ i d late g. let z = in_size s j i d g in (nx d.request z.1, lo d.request z.1)) (s.standing j jl)));
          live = λ j i d late g. let before = later j i d late g in let w = s.live j i d before.0 g in let size_of = (in_size s j i d g).1 in (words d.request size_of before.1 ∙ w.0, cl d.request size_of ∙ w.1);
          in_use = λ q ql. dite (ℕ_discrete q it.0.request) (λ same. subst (λ y. InUse m' t' log freed' y) (sym same) used)
              (λ ne. in_use_frame m m' t t' log log freed freed' q (λ y z. nx q ql) (words q ql ne) (cl q ql) (λ z. lo q ql ∙ z) refl
              (λ j i d late g is. (keeps j i d late g (λ z. ne (sym is ∙ z)), g)) (s.in_use q ql));
        }

    -- C8
    pub frees : (r' : Right) → r'.last ≡ r.last → r'.turned ≡ r.turned → r'.noted ≡ r.noted → r'.stage ≡ b → ticket_generation now < 140737488355327 → Same links m.head m'.head → Same requests m.next m'.next → Changed requests m.request m'.request (ticket_request now) (2 * (ticket_generation now + 1))
        → Changed links t.rights t'.rights k (r' ∷ []) → Same requests t.claims t'.claims → Same requests t.loose t'.loose
        → Chains links requests m' t' log freed' places
    frees r' last' turned' noted' stage' small hd nx rq rt cl lo =
        let u = s.in_use it.0.request size.1 in let v = free_word u (let a = its_generation in omega arith) in
        passes r' last' turned' noted' stage' hd nx (λ q ql ne. rq.else q ql (λ z. ne (z ∙ slot))) rt cl lo record {
          generation = suc u.generation;
          times = u.times;
          small = (let a = its_generation in let z = v.3 in omega arith);
          each_once = u.each_once;
          phase = free_phase record {
            word = ap m'.request (sym slot) ∙ (rq.here ∙ (let a = its_generation in let z = v.3 in omega arith));
            used = v.0 ∙ ap suc (sym v.3);
            unclaimed = cl it.0.request size.1 ∙ v.2;
            still = lo it.0.request size.1 ∙ v.1;
          };
        }

    -- the same where the generation is the last one: the request stays taken for good, and no word changes
    pub retires : (r' : Right) → r'.last ≡ r.last → r'.turned ≡ r.turned → r'.noted ≡ r.noted → r'.stage ≡ b → ticket_generation now ≡ 140737488355327 → Same links m.head m'.head → Same requests m.next m'.next → Same requests m.request m'.request
        → Changed links t.rights t'.rights k (r' ∷ []) → Same requests t.claims t'.claims → Same requests t.loose t'.loose
        → Chains links requests m' t' log freed' places
    retires r' last' turned' noted' stage' last hd nx rq rt cl lo =
        let u = s.in_use it.0.request size.1 in let w = s.live k (freed k) it.0 (omega arith) it.1 in
        let loose : t.loose it.0.request ≡ [] = ((held.points (freed k) it.0 (omega arith) it.1).written fits.noted).0 in
        passes r' last' turned' noted' stage' hd nx (λ q ql ne. rq q ql) rt cl lo record {
          generation = u.generation;
          times = u.times;
          small = u.small;
          each_once = u.each_once;
          phase = elim u.phase [
            | free_phase v ↦ (let z = v.word in let y = w.0 in absurd (omega arith))
            | claimed_phase v ↦ absurd (no_token (t.claims it.0.request) v.claim v.claimed w.1)
            | used_phase v ↦ retired_phase record {
              word = rq it.0.request size.1 ∙ (let a = (used_word s it.0.request u.generation u.times v).0 in let z = v.generation_is in omega arith);
              used = v.used;
              unclaimed = cl it.0.request size.1 ∙ w.1;
              still = lo it.0.request size.1 ∙ loose;
              last = (let a = (used_word s it.0.request u.generation u.times v).0 in let z = v.generation_is in let y = w.0 in let g = its_generation in omega arith);
            }
            | retired_phase v ↦ retired_phase record { word = rq it.0.request size.1 ∙ v.word; used = v.used; unclaimed = cl it.0.request size.1 ∙ v.unclaimed; still = lo it.0.request size.1 ∙ v.still; last = v.last }
          ];
        }
