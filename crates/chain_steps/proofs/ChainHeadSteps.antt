-- The head is tried, and the steps of a right that change no word but the head.
use Rattle.std.proofs.Common.{◌≡◌, ◌≢◌, ℕ, suc, ◌+◌, ◌<◌, ◌≤◌, List, [], ◌∷◌, length, sym, refl, ap, ◌∙◌, subst, ⊎_elim, arith}
use mathlib.Core.Logic.{dite}
use mathlib.Core.Option.{some, some-injective}
use native.Mathlib.Decide.{ℕ_discrete}
use Rattle.sock_model.specs.declared.chain.Entry.{Entry}
use Rattle.sock_model.specs.Entries.{ticket, on, nth}
use Rattle.sock_model.specs.declared.chain.Right.{Right}
use Rattle.sock_model.specs.declared.chain.Stage.TheVariants.{Writes, Placed, Passes, Empties, Reversing, ReversesNext}
use Rattle.sock_model.specs.ChainTokens.{Tokens}
use Rattle.sock_model.specs.ChainMemory.{Memory}
use Rattle.sock_model.specs.LinkWritingState.{Counts, Connected, Waits, OnWalk, InStage, Held, Standing, absent, idle, busy}
use Rattle.sock_model.specs.Chains.{Chains}
use Rattle.chain_steps.proofs.TicketLists.{at_length, ticket_at_is, nth_some, nth_same, Distinct}
use Rattle.chain_steps.proofs.UntouchedByChainSteps.{Same, Changed, one_token, no_token, in_size, on_distinct, standing_frame, in_use_frame, held_frame}
use Rattle.sock_model.specs.sock_words.specs.PackedWords.{ticket_request, UNCONNECTED, IDLE}

pub slot_is : (e : Entry) → e.request < 65535 → ticket_request (ticket e) ≡ e.request
slot_is e h = omega arith

-- a step that changes the head and the right of link k alone, and the count of its places
pub relinks : {links requests : ℕ} {m m' : Memory} {t t' : Tokens} {log : List Entry} {freed places places' : ℕ → ℕ} → Chains links requests m t log freed places → (k : ℕ)
    → Standing m' t' k (on k log) (freed k) (places' k)
    → ((j : ℕ) → j < links → j ≢ k → m'.head j ≡ m.head j) → Same requests m.next m'.next → Same requests m.request m'.request
    → ((j : ℕ) → j < links → j ≢ k → t'.rights j ≡ t.rights j) → Same requests t.claims t'.claims → Same requests t.loose t'.loose
    → ((j : ℕ) → j < links → j ≢ k → places' j ≡ places j)
    → Chains links requests m' t' log freed places'
relinks {links} {requests} {m} {m'} {t} {t'} {log} {freed} {places} {places'} s k now hd nx rq rt cl lo pl = record {
  chained = s.chained;
  differ = s.differ;
  sized = s.sized;
  standing = λ j jl. dite (ℕ_discrete j k) (λ same. subst (λ q. Standing m' t' q (on q log) (freed q) (places' q)) (sym same) now)
      (λ ne. subst (λ p. Standing m' t' j (on j log) (freed j) p) (sym (pl j jl ne)) (standing_frame m m' t t' j (on j log) (freed j) (places j) (hd j jl ne) (rt j jl ne) (λ i d late g. let z = in_size s j i d g in (nx d.request z.1, lo d.request z.1)) (s.standing j jl)));
  live = λ j i d late g. let z = in_size s j i d g in let w = s.live j i d late g in (rq d.request z.1 ∙ w.0, cl d.request z.1 ∙ w.1);
  in_use = λ q ql. in_use_frame m m' t t' log log freed freed q (λ y z. nx q ql) (rq q ql) (cl q ql) (λ z. lo q ql ∙ z) refl (λ j i d late g is. (late, g)) (s.in_use q ql);
}

-- C4: the head had the last ticket noted
emptied : (c : List Entry) → Distinct ticket c → (m : Memory) (t : Tokens) (freed places : ℕ) (r : Right) (h : Held m t c freed places r) → r.stage ≡ Empties → nth c (length c) ≡ r.last → (freed ≡ length c) × (places ≡ freed)
emptied c d m t freed places r h stage same =
    let st : InStage m t c h.counts freed places Empties = subst (InStage m t c h.counts freed places) stage h.stage_is in
    let f = h.fits in let n = h.counts in
    let e : n.noted ≡ length c = nth_same c d n.noted (length c) (omega arith) (omega arith) (h.last_is ∙ sym same) in (st.2 ∙ e, st.1)

-- C4: the head had another ticket
begun : (c : List Entry) → Distinct ticket c → (m : Memory) (t : Tokens) (freed places : ℕ) (r r' : Right) (h : Held m t c freed places r) → r.stage ≡ Empties → nth c (length c) ≢ r.last
    → r'.last ≡ r.last → r'.turned ≡ r.turned → r'.noted ≡ r.noted → r'.stage ≡ Reversing (nth c (length c)) (nth c (length c)) 0 → Held m t c freed places r'
begun c d m t freed places r r' h stage ne last' turned' noted' stage' =
    let n = h.counts in let f = h.fits in
    let st : InStage m t c n freed places Empties = subst (InStage m t c n freed places) stage h.stage_is in
    let short : n.noted ≢ length c = λ e. ne (sym (ap (λ y. nth c y) e) ∙ h.last_is) in
    let rest : (n.left ≡ n.noted) × (n.top ≡ n.noted) = st.0 in
    let done : freed ≡ n.noted = st.2 in
    let w : Counts = record { noted = n.noted; left = length c; top = length c } in record {
      counts = w;
      some_noted = h.some_noted;
      fits = (f.0, omega arith, omega arith, omega arith);
      turned_is = (let z = h.turned_is in omega arith);
      noted_is = h.noted_is ∙ sym noted';
      last_is = h.last_is ∙ sym last';
      stage_is = subst (InStage m t c w freed places) (sym stage') record { all_freed = (done, st.1); some_left = omega arith; top_is = refl; at_is = refl; after_is = λ y. absurd (omega arith); no_after = λ y. refl };
      points = λ i e late g. let z = at_length c i e g in let old = h.points i e late g in record {
        written = λ y. absurd (omega arith);
        unturned = λ y x. old.newer (omega arith);
        turned = λ y x. absurd (omega arith);
        newer = λ y. absurd (omega arith);
      };
    }

-- P1 and C5 as far as the right goes: the stage is another
restaged : (m : Memory) (t : Tokens) (c : List Entry) (freed places places' : ℕ) (r r' : Right) (h : Held m t c freed places r) → r'.last ≡ r.last → r'.turned ≡ r.turned → r'.noted ≡ r.noted → InStage m t c h.counts freed places' r'.stage → Held m t c freed places' r'
restaged m t c freed places places' r r' h last turned noted now = record { counts = h.counts; some_noted = h.some_noted; fits = h.fits; turned_is = h.turned_is ∙ ap (λ n. h.counts.left + n) (sym turned); noted_is = h.noted_is ∙ sym noted; last_is = h.last_is ∙ sym last; stage_is = now; points = h.points }

module _ {links requests : ℕ} {m : Memory} {t : Tokens} {log : List Entry} {freed places : ℕ → ℕ} (s : Chains links requests m t log freed places) where
  -- what a right tells
  pub held_of : (k : ℕ) (r : Right) → k < links → t.rights k ≡ r ∷ [] → (m.head k ≡ some (nth (on k log) (length (on k log)))) × Held m t (on k log) (freed k) (places k) r
  held_of k r kl has = elim (s.standing k kl) [
    | absent h z f p ↦ absurd (no_token (t.rights k) r has z)
    | idle h z f p ↦ absurd (no_token (t.rights k) r has z)
    | busy x h is held ↦ (h, subst (Held m t (on k log) (freed k) (places k)) (one_token (t.rights k) x r is has) held)
  ]

  module _ {m' : Memory} {t' : Tokens} (k : ℕ) (r : Right) (kl : k < links) (has : t.rights k ≡ r ∷ []) where
    -- C4 won
    pub empties_head : r.stage ≡ Empties → m.head k ≡ some r.last
        → Changed links m.head m'.head k (some (IDLE + r.last)) → Same requests m.next m'.next → Same requests m.request m'.request
        → Changed links t.rights t'.rights k [] → Same requests t.claims t'.claims → Same requests t.loose t'.loose
        → Chains links requests m' t' log freed places
    empties_head stage found hd nx rq rt cl lo =
        let c = on k log in let h = held_of k r kl has in
        let last : nth c (length c) ≡ r.last = some-injective (nth c (length c)) r.last (sym h.0 ∙ found) in
        let done = emptied c (on_distinct s k) m t (freed k) (places k) r h.1 stage last in
        relinks s k (idle (hd.here ∙ ap (λ n. some (IDLE + n)) (sym last)) rt.here done.0 done.1) (λ j jl ne. hd.else j jl ne) nx rq (λ j jl ne. rt.else j jl ne) cl lo (λ j jl ne. refl)

    -- C4 lost: the walk begins at the ticket found
    pub begins_walk : (r' : Right) (w : ℕ) → r.stage ≡ Empties → m.head k ≡ some w → w ≢ r.last → r'.last ≡ r.last → r'.turned ≡ r.turned → r'.noted ≡ r.noted → r'.stage ≡ Reversing w w 0
        → Same links m.head m'.head → Same requests m.next m'.next → Same requests m.request m'.request
        → Changed links t.rights t'.rights k (r' ∷ []) → Same requests t.claims t'.claims → Same requests t.loose t'.loose
        → Chains links requests m' t' log freed places
    begins_walk r' w stage found other last' turned' noted' stage' hd nx rq rt cl lo =
        let c = on k log in let h = held_of k r kl has in
        let last : w ≡ nth c (length c) = some-injective w (nth c (length c)) (sym found ∙ h.0) in
        let walk = begun c (on_distinct s k) m t (freed k) (places k) r r' h.1 stage (λ e. other (last ∙ e)) last' turned' noted' (stage' ∙ ap (λ n. Reversing n n 0) last) in
        let walk' = held_frame m m' t t' c (freed k) (places k) _ (λ i d late g. let z = in_size s k i d g in (nx d.request z.1, lo d.request z.1)) walk in
        relinks s k (busy r' (hd k kl ∙ h.0) rt.here walk')
        (λ j jl ne. hd j jl) nx rq (λ j jl ne. rt.else j jl ne) cl lo (λ j jl ne. refl)

    -- a step that changes no word of the chain, and the stage alone
    pub restages : {places' : ℕ → ℕ} (r' : Right) → r'.last ≡ r.last → r'.turned ≡ r.turned → r'.noted ≡ r.noted → ((h : Held m t (on k log) (freed k) (places k) r) → InStage m t (on k log) h.counts (freed k) (places' k) r'.stage)
        → Same links m.head m'.head → Same requests m.next m'.next → Same requests m.request m'.request
        → Changed links t.rights t'.rights k (r' ∷ []) → Same requests t.claims t'.claims → Same requests t.loose t'.loose
        → ((j : ℕ) → j < links → j ≢ k → places' j ≡ places j)
        → Chains links requests m' t' log freed places'
    restages {places'} r' last' turned' noted' now hd nx rq rt cl lo pl =
        let c = on k log in let h = held_of k r kl has in
        let new = restaged m t c (freed k) (places k) (places' k) r r' h.1 last' turned' noted' (now h.1) in
        let new' = held_frame m m' t t' c (freed k) (places' k) _ (λ i d late g. let z = in_size s k i d g in (nx d.request z.1, lo d.request z.1)) new in
        relinks s k (busy r' (hd k kl ∙ h.0) rt.here new') (λ j jl ne. hd j jl) nx rq (λ j jl ne. rt.else j jl ne) cl lo pl

    -- P1: the message of `now` has its place
    pub places_one : {places' : ℕ → ℕ} (r' : Right) (now : ℕ) → r.stage ≡ Writes now → r'.last ≡ r.last → r'.turned ≡ r.turned → r'.noted ≡ r.noted → r'.stage ≡ Placed now → Changed links places places' k (suc (places k))
        → Same links m.head m'.head → Same requests m.next m'.next → Same requests m.request m'.request
        → Changed links t.rights t'.rights k (r' ∷ []) → Same requests t.claims t'.claims → Same requests t.loose t'.loose
        → Chains links requests m' t' log freed places'
    places_one {places'} r' now stage last' turned' noted' stage' pl hd nx rq rt cl lo = restages {places' = places'} r' last' turned' noted'
        (λ h. subst (InStage m t (on k log) h.counts (freed k) (places' k)) (sym stage') (let st : InStage m t (on k log) h.counts (freed k) (places k) (Writes now) = subst (InStage m t (on k log) h.counts (freed k) (places k)) stage h.stage_is in (st.0, pl.here ∙ ap suc st.1, st.2, st.3)))
        hd nx rq rt cl lo (λ j jl ne. pl.else j jl ne)

    -- C5 behind the entry that was written, where it isn't the last one
    pub passes_on : (r' : Right) (now : ℕ) → requests ≤ 65535 → r.stage ≡ Placed now → now ≢ r.last → r'.last ≡ r.last → r'.turned ≡ r.turned → r'.noted ≡ r.noted → r'.stage ≡ Passes now (m.next (ticket_request now))
        → Same links m.head m'.head → Same requests m.next m'.next → Same requests m.request m'.request
        → Changed links t.rights t'.rights k (r' ∷ []) → Same requests t.claims t'.claims → Same requests t.loose t'.loose
        → Chains links requests m' t' log freed places
    passes_on r' now narrow stage ne last' turned' noted' stage' hd nx rq rt cl lo = restages {places' = places} r' last' turned' noted'
        (λ h. subst (InStage m t (on k log) h.counts (freed k) (places k)) (sym stage') (let c = on k log in let n = h.counts in let f = h.fits in
        let st : InStage m t c n (freed k) (places k) (Placed now) = subst (InStage m t c n (freed k) (places k)) stage h.stage_is in
        let more : suc (freed k) < n.noted = (let z : suc (freed k) ≢ n.noted = λ q. ne (sym st.3 ∙ (ap (λ y. nth c y) q ∙ h.last_is)) in let y = st.2 in omega arith) in
        let a = nth_some c (freed k) (omega arith) in
        let size = in_size s k (freed k) a.0 a.1 in let narrow' = size.1 in
        let at : ticket_request now ≡ a.0.request = ap ticket_request (sym st.3 ∙ a.2) ∙ slot_is a.0 (omega arith) in
        let p = (h.points (freed k) a.0 (omega arith) a.1).written (omega arith) in
        (st.0, st.1, more, st.3, sym (ap m.next at ∙ p.1 more))))
        hd nx rq rt cl lo (λ j jl ne. refl)

    -- C5 on the walk, where the next word was connected
    pub reads_back : (r' : Right) (top at after : ℕ) → requests ≤ 65535 → r.stage ≡ Reversing top at after → m.next (ticket_request at) ≢ UNCONNECTED → r'.last ≡ r.last → r'.turned ≡ r.turned → r'.noted ≡ r.noted → r'.stage ≡ ReversesNext top at after (m.next (ticket_request at))
        → Same links m.head m'.head → Same requests m.next m'.next → Same requests m.request m'.request
        → Changed links t.rights t'.rights k (r' ∷ []) → Same requests t.claims t'.claims → Same requests t.loose t'.loose
        → Chains links requests m' t' log freed places
    reads_back r' top at after narrow stage found last' turned' noted' stage' hd nx rq rt cl lo = restages {places' = places} r' last' turned' noted'
        (λ h. subst (InStage m t (on k log) h.counts (freed k) (places k)) (sym stage') (let c = on k log in let n = h.counts in let f = h.fits in
        let st : OnWalk c n (freed k) (places k) top at after = subst (InStage m t c n (freed k) (places k)) stage h.stage_is in
        let some_left = st.some_left in let fr = st.all_freed in (
          st,
          λ j e q g.
              let size = in_size s k j e g in let narrow' = size.1 in
              let is : ticket_request at ≡ e.request = ap ticket_request (sym st.at_is ∙ (ap (λ y. nth c y) (sym q) ∙ ticket_at_is c j e g)) ∙ slot_is e (omega arith) in
              let w : Waits e (m.next e.request) (t.loose e.request) = (h.points j e (omega arith) g).unturned (omega arith) (omega arith) in
              ⊎_elim (λ (u : Connected e (m.next e.request) (t.loose e.request)). (ap m.next is ∙ u.0, u)) (λ u. absurd (found (ap m.next is ∙ u.0))) w,
        )))
        hd nx rq rt cl lo (λ j jl ne. refl)
