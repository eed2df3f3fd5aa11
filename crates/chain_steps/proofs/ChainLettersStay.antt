-- Steps keep the messages where they lie.
use Rattle.std.proofs.Common.{◌≡◌, ◌≢◌, ℕ, suc, ◌<◌, ◌≤◌, true, false, List, [], ◌∷◌, ◌++◌, length, sym, ap, ◌∙◌, subst, inl, inr, ⊎_elim, arith}
use mathlib.Core.Logic.{dite}
use mathlib.Core.Option.{Option, none, some, some-injective}
use native.Mathlib.Decide.{ℕ_discrete}
use lib.ListN.{get_elem?}
use Rattle.sock_model.specs.declared.chain.Entry.{Entry}
use Rattle.sock_model.specs.declared.chain.Stage.{Stage}
use Rattle.sock_model.specs.declared.chain.Stage.TheVariants.{Writes, Placed, Passes, Empties, Reversing, ReversesNext}
use Rattle.sock_model.specs.declared.chain.Right.{Right}
use Rattle.sock_model.specs.declared.chain.Claim.{Claim}
use Rattle.sock_model.specs.Entries.{ticket, on}
use Rattle.sock_model.specs.ChainTokens.{Tokens}
use Rattle.sock_model.specs.ChainMemory.{Memory}
use Rattle.sock_model.specs.LinkWritingState.{Counts, InStage, absent, idle, busy}
use Rattle.sock_model.specs.Chains.{Chains}
use Rattle.sock_model.specs.UnplacedMessages.{HeadedBytes, InHand, Messages}
use Rattle.chain_steps.proofs.TicketLists.{at_length, ticket_at_is, nth_same}
use Rattle.chain_steps.proofs.UntouchedByChainSteps.{Same, Changed, one_token, no_token, in_size, on_distinct, live_same}
use Rattle.chain_steps.proofs.Claims.{claim_other}
use Rattle.chain_steps.proofs.ChainHeadSteps.{held_of}
use Rattle.chain_steps.proofs.Grow.{IsNext, comes, earlier, latest}

-- of a message in hand all that the right says of it stays
abbrev pub SameHand : ℕ → Tokens → Tokens → Type 0
SameHand links t t' = (k : ℕ) (r' : Right) → k < links → t'.rights k ≡ r' ∷ [] → r'.taken ≡ true → (r : Right) × (t.rights k ≡ r ∷ []) × (r.taken ≡ true) × (r'.stage ≡ r.stage) × (r'.heading ≡ r.heading) × (r'.bytes ≡ r.bytes)

writes_same : (a b : ℕ) → Writes a ≡ Writes b → a ≡ b
writes_same a b e = cc

some_places : (m : Memory) (t : Tokens) (c : List Entry) (n : Counts) (freed places : ℕ) (s : Stage) → InStage m t c n freed places s → freed ≤ places
some_places m t c n freed places (Reversing top at after) h = (let k = h.all_freed in omega arith)
some_places m t c n freed places (ReversesNext top at after before) h = (let k = h.0.all_freed in omega arith)
some_places m t c n freed places _ h = (let k = h.1 in omega arith)

most_places : (m : Memory) (t : Tokens) (c : List Entry) (n : Counts) (freed places : ℕ) (s : Stage) → freed ≤ n.noted → InStage m t c n freed places s → places ≤ n.noted
most_places m t c n freed places (Writes now) f h = (let k = h.1 in omega arith)
most_places m t c n freed places (Placed now) f h = (let k = h.1 in let l = h.2 in omega arith)
most_places m t c n freed places (Passes now next) f h = (let k = h.1 in let l = h.2 in omega arith)
most_places m t c n freed places Empties f h = (let k = h.1 in omega arith)
most_places m t c n freed places (Reversing top at after) f h = (let k = h.all_freed in omega arith)
most_places m t c n freed places (ReversesNext top at after before) f h = (let k = h.0.all_freed in omega arith)

module _ {links requests : ℕ} {m : Memory} {t : Tokens} {log : List Entry} {freed places : ℕ → ℕ} (s : Chains links requests m t log freed places) where
  pub freed_places : (k : ℕ) → k < links → freed k ≤ places k
  freed_places k kl = elim (s.standing k kl) [
    | absent h r f p ↦ omega arith
    | idle h r f p ↦ omega arith
    | busy r h q held ↦ some_places m t (on k log) held.counts (freed k) (places k) r.stage held.stage_is
  ]

  -- an entry without a place didn't give its request back
  pub unplaced_live : (k i : ℕ) (e : Entry) → places k ≤ i → get_elem? (on k log) i ≡ some e → freed k ≤ i
  unplaced_live k i e late g = let a = freed_places k (in_size s k i e g).0 in omega arith

  -- a right that writes has an entry without a place
  pub writes_room : (k : ℕ) (r : Right) (now : ℕ) → k < links → t.rights k ≡ r ∷ [] → r.stage ≡ Writes now → places k < length (on k log)
  writes_room k r now kl has stage =
      let h = (held_of s k r kl has).1 in let f = h.fits in
      let st : InStage m t (on k log) h.counts (freed k) (places k) (Writes now) = subst (InStage m t (on k log) h.counts (freed k) (places k)) stage h.stage_is in
      let a = st.1 in let b = st.2 in omega arith

  module _ {message : ℕ → Option HeadedBytes} (d : Messages links requests message t log places) where
    -- M1
    pub fills : (t' : Tokens) (message' : ℕ → Option HeadedBytes) (r : ℕ) (c c' : Claim) → r < requests → t.claims r ≡ c ∷ []
        → Changed requests message message' r (some (c'.heading, c'.bytes)) → Changed requests t.claims t'.claims r (c' ∷ []) → ((k : ℕ) → k < links → t'.rights k ≡ t.rights k)
        → Messages links requests message' t' log places
    fills t' message' r c c' rl was ms cl rt = record {
      claimed = λ q x ql h f. dite (ℕ_discrete q r)
          (λ same. let e : c' ≡ x = one_token (t'.claims r) c' x cl.here (ap t'.claims (sym same) ∙ h) in
          ap message' same ∙ (ms.here ∙ ap (λ (y : Claim). some (y.heading, y.bytes)) e))
          (λ ne. ms.else q ql ne ∙ d.claimed q x ql (sym (cl.else q ql ne) ∙ h) f);
      taken_writes = λ k x kl h f. d.taken_writes k x kl (sym (rt k kl) ∙ h) f;
      in_hand = λ k x e kl h f g. d.in_hand k x e kl (sym (rt k kl) ∙ h) f g;
      waiting = λ k i e late g. let z = in_size s k i e g in
          ⊎_elim (λ u. inl (ms.else e.request z.1 (claim_other s r c was k i e (unplaced_live k i e late g) g) ∙ u))
          (λ (u : InHand t k e). inr record { right = u.right; has = rt k z.0 ∙ u.has; stage = u.stage; taken = u.taken }) (d.waiting k i e late g);
    }

    -- C1, C7: a claim comes, or becomes another one, and the messages stay
    pub claims_letter : (t' : Tokens) (r : ℕ) (c' : Claim) → (c'.filled ≡ true → message r ≡ some (c'.heading, c'.bytes)) → Changed requests t.claims t'.claims r (c' ∷ []) → Same links t.rights t'.rights → Messages links requests message t' log places
    claims_letter t' r c' told cl rt = record {
      claimed = λ q x ql h f. dite (ℕ_discrete q r)
          (λ same. let e : c' ≡ x = one_token (t'.claims r) c' x cl.here (ap t'.claims (sym same) ∙ h) in
          ap message same ∙ (told (ap (λ (y : Claim). y.filled) e ∙ f) ∙ ap (λ (y : Claim). some (y.heading, y.bytes)) e))
          (λ ne. d.claimed q x ql (sym (cl.else q ql ne) ∙ h) f);
      taken_writes = λ k x kl h f. d.taken_writes k x kl (sym (rt k kl) ∙ h) f;
      in_hand = λ k x e kl h f g. d.in_hand k x e kl (sym (rt k kl) ∙ h) f g;
      waiting = λ k i e late g. let z = in_size s k i e g in ⊎_elim (λ u. inl u) (λ (u : InHand t k e). inr record { right = u.right; has = rt k z.0 ∙ u.has; stage = u.stage; taken = u.taken }) (d.waiting k i e late g);
    }

    -- a step that leaves the claims, the messages and the places, and of a right with a message in hand what it has
    pub messages_frame : (t' : Tokens) (message' : ℕ → Option HeadedBytes) → Same requests message message' → Same requests t.claims t'.claims
        → ((k : ℕ) (e : Entry) → k < links → InHand t k e → InHand t' k e) → SameHand links t t' → Messages links requests message' t' log places
    messages_frame t' message' ms cl hand same = record {
      claimed = λ q c ql h f. ms q ql ∙ d.claimed q c ql (sym (cl q ql) ∙ h) f;
      taken_writes = λ k r' kl h f. let x = same k r' kl h f in let y = d.taken_writes k x.0 kl x.1 x.2 in (y.0, x.3 ∙ y.1);
      in_hand = λ k r' e kl h f g. let x = same k r' kl h f in let y = d.in_hand k x.0 e kl x.1 x.2 g in (x.4 ∙ y.0, x.5 ∙ y.1);
      waiting = λ j i a late g. let z = in_size s j i a g in ⊎_elim (λ u. inl (ms a.request z.1 ∙ u)) (λ (u : InHand t j a). inr (hand j a z.0 u)) (d.waiting j i a late g);
    }

    -- C2
    pub entrusts : (t' : Tokens) (k : ℕ) (c : Claim) (e : Entry) (x : IsNext links requests m t log k c e) → c.filled ≡ true → e.heading ≡ c.heading → e.bytes ≡ c.bytes → Changed requests t.claims t'.claims e.request []
        → ((j : ℕ) (r : Right) → j < links → t.rights j ≡ r ∷ [] → t'.rights j ≡ r ∷ []) → SameHand links t t'
        → Messages links requests message t' (log ++ e ∷ []) places
    entrusts t' k c e x full lb by cl rt same = record {
      claimed = λ q y ql h f. dite (ℕ_discrete q e.request) (λ same. absurd (no_token (t'.claims e.request) y (ap t'.claims (sym same) ∙ h) cl.here)) (λ ne. d.claimed q y ql (sym (cl.else q ql ne) ∙ h) f);
      taken_writes = λ j r' jl h f. let y = same j r' jl h f in let z = d.taken_writes j y.0 jl y.1 y.2 in (z.0, y.3 ∙ z.1);
      in_hand = λ j r' a jl h f g. let y = same j r' jl h f in let w = d.taken_writes j y.0 jl y.1 y.2 in
          elim (comes s k c e x j (places j) a g) [
            | earlier o ↦ (let z = d.in_hand j y.0 a jl y.1 y.2 o in (y.4 ∙ z.0, y.5 ∙ z.1))
            | latest j_is o z ↦ (let b = writes_room j y.0 w.0 jl y.1 w.1 in let q : length (on j log) ≡ length (on k log) = ap (λ n. length (on n log)) j_is in absurd (omega arith))
          ];
      waiting = λ j i a late g. elim (comes s k c e x j i a g) [
        | earlier o ↦ ⊎_elim (λ u. inl u) (λ (u : InHand t j a). inr record { right = u.right; has = rt j u.right (in_size s j i a o).0 u.has; stage = u.stage; taken = u.taken }) (d.waiting j i a late o)
        | latest same o z ↦ inl (subst (λ (y : Entry). message y.request ≡ some (y.heading, y.bytes)) z (d.claimed e.request c x.request_in x.claimed full ∙ ap (λ (y : HeadedBytes). some y) (λ w. (sym lb w, sym by w))))
      ];
    }

    module _ (t' : Tokens) (k : ℕ) (r r' : Right) (now : ℕ) (kl : k < links) (has : t.rights k ≡ r ∷ []) (stage : r.stage ≡ Writes now) (has' : Changed links t.rights t'.rights k (r' ∷ [])) (cl : Same requests t.claims t'.claims) where
      -- the message of `now` is the one without a place that comes first
      its_place : (i : ℕ) (e : Entry) → get_elem? (on k log) i ≡ some e → ticket e ≡ now → i ≡ places k
      its_place i e g is =
          let h = (held_of s k r kl has).1 in let f = h.fits in
          let st : InStage m t (on k log) h.counts (freed k) (places k) (Writes now) = subst (InStage m t (on k log) h.counts (freed k) (places k)) stage h.stage_is in
          let b = st.1 in let n = at_length (on k log) i e g in let c = st.2 in
          let q : suc i ≡ suc (freed k) = nth_same (on k log) (on_distinct s k) (suc i) (suc (freed k)) (omega arith) (omega arith) (ticket_at_is (on k log) i e g ∙ (is ∙ sym st.3)) in omega arith

      hand_here : (i : ℕ) (e : Entry) → get_elem? (on k log) i ≡ some e → InHand t k e → i ≡ places k
      hand_here i e g u = its_place i e g (let q : r ≡ u.right = one_token (t.rights k) r u.right has u.has in writes_same (ticket e) now (sym u.stage ∙ (ap (λ (y : Right). y.stage) (sym q) ∙ stage)))

      hand_else : (j i : ℕ) (e : Entry) → j ≢ k → get_elem? (on j log) i ≡ some e → InHand t j e → InHand t' j e
      hand_else j i e ne g u = record { right = u.right; has = has'.else j (in_size s j i e g).0 ne ∙ u.has; stage = u.stage; taken = u.taken }

      -- M2
      pub takes_letter : (message' : ℕ → Option HeadedBytes) (e : Entry) → get_elem? (on k log) (places k) ≡ some e → ticket e ≡ now → r'.stage ≡ Writes now → r'.taken ≡ true → r'.heading ≡ e.heading → r'.bytes ≡ e.bytes → Changed requests message message' e.request none
          → Messages links requests message' t' log places
      takes_letter message' e at is stage' taken' label' bytes' ms = record {
        claimed = λ q c ql h f. let w = s.live k (places k) e (unplaced_live k (places k) e (omega arith) at) at in
            ms.else q ql (λ same. no_token (t'.claims q) c h (cl q ql ∙ (ap t.claims same ∙ w.1))) ∙ d.claimed q c ql (sym (cl q ql) ∙ h) f;
        taken_writes = λ j y jl h f. dite (ℕ_discrete j k)
            (λ same. (now, ap (λ (z : Right). z.stage) (sym (one_token (t'.rights k) r' y has'.here (ap t'.rights (sym same) ∙ h))) ∙ stage'))
            (λ far. d.taken_writes j y jl (sym (has'.else j jl far) ∙ h) f);
        in_hand = λ j y a jl h f g. dite (ℕ_discrete j k)
            (λ same. let q : r' ≡ y = one_token (t'.rights k) r' y has'.here (ap t'.rights (sym same) ∙ h) in
            let ea : e ≡ a = some-injective e a (sym at ∙ (ap (λ n. get_elem? (on n log) (places n)) (sym same) ∙ g)) in
            (ap (λ (z : Right). z.heading) (sym q) ∙ (label' ∙ ap (λ (z : Entry). z.heading) ea), ap (λ (z : Right). z.bytes) (sym q) ∙ (bytes' ∙ ap (λ (z : Entry). z.bytes) ea)))
            (λ far. d.in_hand j y a jl (sym (has'.else j jl far) ∙ h) f g);
        waiting = λ j i a late g. dite (ℕ_discrete a.request e.request)
            (λ same. let z = live_same s j i a k (places k) e (unplaced_live j i a late g) g (unplaced_live k (places k) e (omega arith) at) at same in
            let ae : a ≡ e = some-injective a e (sym g ∙ ((λ w. get_elem? (on (z.0 w) log) (z.1 w)) ∙ at)) in
            inr record { right = r'; has = ap t'.rights z.0 ∙ has'.here; stage = stage' ∙ ap (λ (y : ℕ). Writes y) (sym is ∙ ap ticket (sym ae)); taken = taken' })
            (λ ne. ⊎_elim (λ u. inl (ms.else a.request (in_size s j i a g).1 ne ∙ u))
            (λ (u : InHand t j a). inr (dite (ℕ_discrete j k)
            (λ same. absurd (ne (let g' : get_elem? (on k log) i ≡ some a = subst (λ y. get_elem? (on y log) i ≡ some a) same g in
            let q : i ≡ places k = hand_here i a g' (subst (λ y. InHand t y a) same u) in ap (λ (y : Entry). y.request) (some-injective a e (sym g' ∙ (ap (λ y. get_elem? (on k log) y) q ∙ at))))))
            (λ far. hand_else j i a far g u))) (d.waiting j i a late g));
      }

      -- P1
      pub lets_go : (places' : ℕ → ℕ) → r'.taken ≡ false → Changed links places places' k (suc (places k)) → Messages links requests message t' log places'
      lets_go places' let_go pl = record {
        claimed = λ q c ql h f. d.claimed q c ql (sym (cl q ql) ∙ h) f;
        taken_writes = λ j y jl h f. dite (ℕ_discrete j k)
            (λ same. let z : true ≡ false = sym f ∙ (ap (λ (z : Right). z.taken) (sym (one_token (t'.rights k) r' y has'.here (ap t'.rights (sym same) ∙ h))) ∙ let_go) in cc)
            (λ far. d.taken_writes j y jl (sym (has'.else j jl far) ∙ h) f);
        in_hand = λ j y a jl h f g. dite (ℕ_discrete j k)
            (λ same. let z : true ≡ false = sym f ∙ (ap (λ (z : Right). z.taken) (sym (one_token (t'.rights k) r' y has'.here (ap t'.rights (sym same) ∙ h))) ∙ let_go) in cc)
            (λ far. d.in_hand j y a jl (sym (has'.else j jl far) ∙ h) f (subst (λ n. get_elem? (on j log) n ≡ some a) (pl.else j jl far) g));
        waiting = λ j i a late g. dite (ℕ_discrete j k)
            (λ same. let x : places' j ≡ suc (places k) = ap places' same ∙ pl.here in let y : places j ≡ places k = ap places same in
            ⊎_elim (λ u. inl u) (λ (u : InHand t j a). let g' : get_elem? (on k log) i ≡ some a = subst (λ y. get_elem? (on y log) i ≡ some a) same g in
            let q : i ≡ places k = hand_here i a g' (subst (λ y. InHand t y a) same u) in absurd (omega arith)) (d.waiting j i a (omega arith) g))
            (λ far. let x = pl.else j (in_size s j i a g).0 far in ⊎_elim (λ u. inl u) (λ (u : InHand t j a). inr (hand_else j i a far g u)) (d.waiting j i a (omega arith) g));
      }

  -- places are entries
  pub places_fit : (k : ℕ) → k < links → places k ≤ length (on k log)
  places_fit k kl = elim (s.standing k kl) [
    | absent h r f p ↦ omega arith
    | idle h r f p ↦ omega arith
    | busy r h q held ↦ (let f = held.fits in let a = most_places m t (on k log) held.counts (freed k) (places k) r.stage f.0 held.stage_is in omega arith)
  ]
