-- What becomes of the link that a seat writes: how many of its messages have places, and what it took.
use Rattle.std.proofs.Common.{◌≡◌, ◌≢◌, ℕ, zero, suc, ◌+◌, ◌<◌, ◌≤◌, ◌⊎◌, inl, inr, ⊎_elim, eqb, cond, Bool, true, false, eq-eqb, ne_eqb, List, [], ◌∷◌, ◌++◌, length, take, drop, set, sym, refl, ap, ap₂, ◌∙◌, subst, append-nil, append_assoc, arith}
use Rattle.std.proofs.Math.Seq.{take-add, take-length}
use Rattle.std.proofs.lemmas.List.{take-append-le, take-append-drop}
use Rattle.std.specs.List.{filter, flat_map}
use mathlib.Core.Logic.{dite}
use mathlib.Core.Option.{Option, none, some}
use native.Mathlib.Decide.{ℕ_discrete}
use lib.ListN.{get_elem?}
use Rattle.atomic_table.proofs.Lists.{set_else}
use Rattle.sock_words.specs.declared.plain.Plan.{Plan}
use Rattle.sock_words.specs.PackedWords.{socket_id_slot}
use Rattle.sock_io.specs.declared.link.Put.TheVariants.{Took}
use Rattle.sock_model.specs.declared.chain.Entry.{Entry}
use Rattle.sock_model.specs.declared.chain.Heading.{Heading}
use Rattle.sock_model.specs.declared.chain.Right.{Right}
use Rattle.sock_model.specs.declared.chain.Stage.TheVariants as stages
use Rattle.sock_model.specs.declared.home.Home.{Home}
use Rattle.sock_model.specs.declared.view.View.{View}
use Rattle.sock_model.specs.declared.view.Hand.{Hand}
use Rattle.sock_model.specs.ChainRows.{with_right, turned_right, placed_right, dropped_right, taken_right, put_right}
use Rattle.sock_model.specs.Deliveries.{whole, Taken}
use Rattle.sock_model.specs.Entries.{on}
use Rattle.sock_model.specs.LawfulSockets.{Lawful}
use Rattle.sock_model.specs.ChainLawReads.{tokens, link_home, as_link, took_of, shown, rights_on}
use Rattle.sock_model.specs.SlotRows.{looked}
use Rattle.chain_steps.proofs.Delivers.{whole_suc}
use Rattle.chain_steps.proofs.Gather.{gather_own, gather_same}
use Rattle.chain_steps.proofs.ChainLettersStay.{writes_room}
use Rattle.chain_steps.proofs.TicketLists.{at_some}
use Rattle.sock_steps.proofs.RightSteps.{right_in, right_slot, right_alone}
use Rattle.seat_programs.specs.TableSteps.{OnSlot, OnChain, OnPlace, LookWord, ReadNext, ReverseNext, FreeRequest, StorePlace, DropPlace}
use Rattle.seat_programs.specs.Cores.{Core, link_place}
use Rattle.seat_programs.specs.StepTables.{row}
use Rattle.seat_programs.specs.StepViews.{by_right, settled}
use Rattle.seat_programs.specs.StepsOfSlots.{looked_clean}
use Rattle.seat_programs.specs.StepsOfChain.{read_next, turned_next, freed_next, freed_stage}
use Rattle.seat_programs.specs.StepsOfPlaces.{placed_next, dropped_next}
use Rattle.seat_programs.specs.StepsOfMessages.{took_message}
use Rattle.seat_programs.specs.StepsOfLinks.{link_away, link_home_again, took_bytes}
use Rattle.sock_runs.specs.program_steps.specs.SoundSeats.{state}
use Rattle.sock_runs.proofs.ChainTicks.{stays_one}
use Rattle.message_events.specs.MessageModel.{IsOrder, MayCome, Take, Place, Dropped}
use Rattle.message_events.proofs.Carried.{no_hand}
use Rattle.message_events.specs.MessageStanding.{Stand, taken_of, of_right, hands_on, by_rights, by_home, stand, messages}

abbrev pub home_of : Plan → Core → ℕ → Option (List ℕ × ℕ)
home_of p c k = link_home (λ (home : Home). home) p c.homes k

abbrev pub SameHomes : Plan → Core → Core → ℕ → Type 0
SameHomes p c c' l = (k : ℕ) → k ≢ l → home_of p c' k ≡ home_of p c k

pub same_homes : (p : Plan) (c c' : Core) (l : ℕ) → c'.homes ≡ c.homes → SameHomes p c c' l
same_homes p c c' l same k ne = ap (λ (hs : List (Option Home)). link_home (λ (home : Home). home) p hs k) same

-- a link goes away or comes
pub homes_set : (p : Plan) (c c' : Core) (l : ℕ) (x : Option Home) → c'.homes ≡ set c.homes (link_place p l) x → SameHomes p c c' l
homes_set p c c' l x same k ne = ap (λ (hs : List (Option Home)). link_home (λ (home : Home). home) p hs k) same
    ∙ ap (λ o. took_of (as_link (shown (λ (home : Home). home) o))) (set_else c.homes (p.requests + l) (p.requests + k) x (λ q. ne (omega (arith, q))))

of_either : (b : Bool) (x y : Right) (s : Stand) → of_right x ≡ s → of_right y ≡ s → of_right (cond b x y) ≡ s
of_either true x y s a b = a
of_either false x y s a b = b

link_either : (b : Bool) (x y : Right) (k : ℕ) → x.link ≡ k → y.link ≡ k → (cond b x y).link ≡ k
link_either true x y k a b = a
link_either false x y k a b = b

module _ (p : Plan) (c : Core) (views : List View) (o : Lawful (λ (home : Home). home) p (state c views)) (i : ℕ) (v : View) (at : get_elem? views i ≡ some v) where
  -- where rights, hands and the home are the same
  pub same_stand : (c' : Core) (w : View) → w.rights ≡ v.rights → w.hands ≡ v.hands → (k : ℕ) → home_of p c' k ≡ home_of p c k → stand p c' (set views i w) k ≡ stand p c views k
  same_stand c' w rights hands k homes =
      ap (λ rs. by_rights rs (home_of p c' k) (flat_map (hands_on k) (set views i w))) (gather_same (rights_on k) views i v w at (ap (filter (λ (x : Right). eqb x.link k)) rights))
      ∙ ap (λ h. by_rights ((tokens views).rights k) h (flat_map (hands_on k) (set views i w))) homes
      ∙ ap (λ hs. by_rights ((tokens views).rights k) (home_of p c k) hs) (gather_same (hands_on k) views i v w at (ap (filter (λ (x : Hand). eqb x.link k)) hands))

  -- ## Of the one right

  module _ (r : Right) (one : v.rights ≡ r ∷ []) where
    has : get_elem? v.rights 0 ≡ some r
    has = ap (λ (l : List Right). get_elem? l 0) one

    pub alone : (tokens views).rights r.link ≡ r ∷ []
    alone = right_alone o i 0 v r at has

    pub inside : r.link < p.links
    inside = right_in o i 0 v r at has

    pub stands_by : stand p c views r.link ≡ of_right r
    stands_by = ap (λ rs. by_rights rs (home_of p c r.link) (flat_map (hands_on r.link) views)) alone

    own_on : rights_on r.link v ≡ r ∷ []
    own_on = ap (filter (λ (x : Right). eqb x.link r.link)) one ∙ ap (λ b. cond b (r ∷ []) []) (eq-eqb r.link r.link refl)

    none_on : (k : ℕ) → k ≢ r.link → rights_on k v ≡ []
    none_on k ne = ap (filter (λ (x : Right). eqb x.link k)) one ∙ ap (λ b. cond b (r ∷ []) []) (ne_eqb r.link k (λ q. ne (sym q)))

    all_own : flat_map (rights_on r.link) views ≡ rights_on r.link v
    all_own = alone ∙ sym own_on

    module _ (c' : Core) (w : View) (r' : Right) (rights : w.rights ≡ r' ∷ []) (hands : w.hands ≡ v.hands) (link' : r'.link ≡ r.link) where
      pub stands_here : stand p c' (set views i w) r.link ≡ of_right r'
      stands_here = ap (λ rs. by_rights rs (home_of p c' r.link) (flat_map (hands_on r.link) (set views i w)))
          (gather_own (rights_on r.link) views i v w at all_own ∙ ap (filter (λ (x : Right). eqb x.link r.link)) rights ∙ ap (λ b. cond b (r' ∷ []) []) (eq-eqb r'.link r.link link'))

      pub stands_else : (k : ℕ) → k ≢ r.link → home_of p c' k ≡ home_of p c k → stand p c' (set views i w) k ≡ stand p c views k
      stands_else k ne homes =
          ap (λ rs. by_rights rs (home_of p c' k) (flat_map (hands_on k) (set views i w)))
          (gather_same (rights_on k) views i v w at (ap (filter (λ (x : Right). eqb x.link k)) rights ∙ ap (λ b. cond b (r' ∷ []) []) (ne_eqb r'.link k (λ q. ne (sym q ∙ link'))) ∙ sym (none_on k ne)))
          ∙ ap (λ h. by_rights ((tokens views).rights k) h (flat_map (hands_on k) (set views i w))) homes
          ∙ ap (λ hs. by_rights ((tokens views).rights k) (home_of p c k) hs) (gather_same (hands_on k) views i v w at (ap (filter (λ (x : Hand). eqb x.link k)) hands))

      pub stays : of_right r' ≡ of_right r → SameHomes p c c' r.link → (k : ℕ) → stand p c' (set views i w) k ≡ stand p c views k
      stays same homes k = dite (ℕ_discrete k r.link)
          (λ e. subst (λ j. stand p c' (set views i w) j ≡ stand p c views j) (sym e) (stands_here ∙ (same ∙ sym stands_by)))
          (λ ne. stands_else k ne (homes k ne))

    -- a view whose one right tells the same, or this
    pub record Keeps (w : View) (s : Stand) : Type 0 where
      pub right : Right
      pub rights : w.rights ≡ right ∷ []
      pub hands : w.hands ≡ v.hands
      pub link : right.link ≡ r.link
      pub tells : of_right right ≡ s

    pub keeps_with : (u : View) (r' : Right) (s : Stand) → u.rights ≡ r ∷ [] → u.hands ≡ v.hands → r'.link ≡ r.link → of_right r' ≡ s → Keeps (with_right u r') s
    keeps_with u r' s rights hands link tells = record { right = r'; rights = ap (λ (x : View). x.rights) (stays_one u r rights r' link); hands = hands; link = link; tells = tells }

    keeps_view : (u : View) → u.rights ≡ r ∷ [] → u.hands ≡ v.hands → Keeps u (of_right r)
    keeps_view u rights hands = record { right = r; rights = rights; hands = hands; link = refl; tells = refl }

    keeps_either : (b : Bool) (x y : View) (s : Stand) → Keeps x s → Keeps y s → Keeps (cond b x y) s
    keeps_either true x y s a b = a
    keeps_either false x y s a b = b

    pub kept : (c' : Core) (w : View) → Keeps w (of_right r) → SameHomes p c c' r.link → (k : ℕ) → stand p c' (set views i w) k ≡ stand p c views k
    kept c' w h = stays c' w h.right h.rights h.hands h.link h.tells

    pub became : (c' : Core) (w : View) (s : Stand) → Keeps w s → SameHomes p c c' r.link → (k : ℕ) → ((k ≡ r.link) × (stand p c' (set views i w) k ≡ s)) ⊎ ((k ≢ r.link) × (stand p c' (set views i w) k ≡ stand p c views k))
    became c' w s h homes k = dite (ℕ_discrete k r.link)
        (λ e. inl (e, subst (λ j. stand p c' (set views i w) j ≡ s) (sym e) (stands_here c' w h.right h.rights h.hands h.link ∙ h.tells)))
        (λ ne. inr (ne, stands_else c' w h.right h.rights h.hands h.link k ne (homes k ne)))

    -- ## Steps on words

    pub looks_keeps : (id found : ℕ) (hand : Hand) → Keeps (row p (OnSlot (LookWord id)) found hand v) (of_right r)
    looks_keeps id found hand = let u : View = looked (socket_id_slot id) found v in
        subst (λ (w : View). Keeps w (of_right r)) (sym (ap (λ rs. by_right rs (looked_clean (socket_id_slot id) found v) (looked (socket_id_slot id) found v)) one))
        (keeps_either _ _ _ (of_right r) (keeps_with u (record r { clean = true }) (of_right r) one refl refl refl) (keeps_view u one refl))

    pub reads_keeps : (q found : ℕ) (hand : Hand) → ((now : ℕ) × (r.stage ≡ stages.Placed now)) ⊎ ((top : ℕ) × (a : ℕ) × (after : ℕ) × (r.stage ≡ stages.Reversing top a after)) → Keeps (row p (OnChain (ReadNext q)) found hand v) (of_right r)
    reads_keeps q found hand stage = subst (λ (w : View). Keeps w (of_right r)) (sym (ap (λ rs. by_right rs (λ r. read_next found v r r.stage) v) one)) (⊎_elim
        (λ s. subst (λ (w : View). Keeps w (of_right r)) (sym (ap (read_next found v r) s.1)) (keeps_with v (settled (record r { stage = stages.Passes s.0 found })) (of_right r) one refl refl refl))
        (λ s. subst (λ (w : View). Keeps w (of_right r)) (sym (ap (read_next found v r) s.3)) (keeps_either _ _ _ (of_right r) (keeps_view v one refl) (keeps_with v (record r { stage = stages.ReversesNext s.0 s.1 s.2 found }) (of_right r) one refl refl refl)))
        stage)

    pub turns_keeps : (q value found top a before : ℕ) (hand : Hand) → r.stage ≡ stages.ReversesNext top a value before → Keeps (row p (OnChain (ReverseNext q value)) found hand v) (of_right r)
    turns_keeps q value found top a before hand stage = subst (λ (w : View). Keeps w (of_right r)) (sym (ap (λ rs. by_right rs (λ r. turned_next v r r.stage) v) one ∙ ap (turned_next v r) stage))
        (keeps_with v (turned_right r top a before) (of_right r) one refl (link_either (eqb before r.last) _ _ r.link refl refl) (of_either (eqb before r.last) _ _ (of_right r) refl refl))

    pub frees_keeps : (q g found : ℕ) (hand : Hand) → Keeps (row p (OnChain (FreeRequest q g)) found hand v) (of_right r)
    frees_keeps q g found hand = subst (λ (w : View). Keeps w (of_right r)) (sym (ap (λ rs. by_right rs (freed_next v) v) one)) (keeps_with v (record r { stage = freed_stage r.stage }) (of_right r) one refl refl refl)

    pub places_makes : (l k n found now : ℕ) (hand : Hand) → r.stage ≡ stages.Writes now → Keeps (row p (OnPlace (StorePlace l k n)) found hand v) (record { placed = suc r.places; took = r.sent ++ r.bytes })
    places_makes l k n found now hand stage = subst (λ (w : View). Keeps w (record { placed = suc r.places; took = r.sent ++ r.bytes })) (sym (ap (λ rs. by_right rs (λ r. placed_next v r r.stage) v) one ∙ ap (placed_next v r) stage))
        (keeps_with v (settled (placed_right r now)) (record { placed = suc r.places; took = r.sent ++ r.bytes }) one refl refl refl)

    pub drops_makes : (l k n found now : ℕ) (hand : Hand) → r.stage ≡ stages.Writes now → Keeps (row p (OnPlace (DropPlace l k n)) found hand v) (record { placed = suc r.places; took = r.sent ++ take r.put r.bytes })
    drops_makes l k n found now hand stage = subst (λ (w : View). Keeps w (record { placed = suc r.places; took = r.sent ++ take r.put r.bytes })) (sym (ap (λ rs. by_right rs (λ r. dropped_next v r r.stage) v) one ∙ ap (dropped_next v r) stage))
        (keeps_with v (settled (dropped_right r now (r.sent ++ take r.put r.bytes))) (record { placed = suc r.places; took = r.sent ++ take r.put r.bytes }) one refl refl refl)

    -- ## Moves and puts

    pub takes_keeps : (heading : Heading) (bytes : List ℕ) → r.taken ≡ false → Keeps (took_message heading bytes v) (of_right r)
    takes_keeps heading bytes idle = subst (λ (w : View). Keeps w (of_right r)) (sym (ap (λ rs. by_right rs (λ r. with_right v (taken_right r heading bytes)) v) one))
        (keeps_with v (taken_right r heading bytes) (of_right r) one refl refl (λ j. record { placed = r.places; took = (append-nil r.sent ∙ sym (ap (λ b. cond b (r.sent ++ take r.put r.bytes) r.sent) idle)) j }))

    pub away_keeps : Keeps (link_away v) (of_right r)
    away_keeps = subst (λ (w : View). Keeps w (of_right r)) (sym (ap (λ rs. by_right rs (λ r. with_right v (record r { at_home = false })) v) one)) (keeps_with v (record r { at_home = false }) (of_right r) one refl refl refl)

    pub home_keeps : Keeps (link_home_again v) (of_right r)
    home_keeps = subst (λ (w : View). Keeps w (of_right r)) (sym (ap (λ rs. by_right rs (λ r. with_right v (record r { at_home = true })) v) one)) (keeps_with v (record r { at_home = true }) (of_right r) one refl refl refl)

    pub puts_makes : (n : ℕ) → Keeps (took_bytes (Took n) v) (of_right (put_right r n))
    puts_makes n = subst (λ (w : View). Keeps w (of_right (put_right r n))) (sym (ap (λ rs. by_right rs (λ r. with_right v (put_right r n)) v) one)) (keeps_with v (put_right r n) (of_right (put_right r n)) one refl refl refl)

    -- ## The end of a right

    pub goes_home : (c' : Core) (w : View) → r.stage ≡ stages.Empties → r.at_home ≡ true → w.rights ≡ [] → w.hands ≡ v.hands → c'.homes ≡ c.homes → (k : ℕ) → stand p c' (set views i w) k ≡ stand p c views k
    goes_home c' w stage home rights hands homes k = let same : home_of p c' k ≡ home_of p c k = ap (λ (hs : List (Option Home)). link_home (λ (h : Home). h) p hs k) homes in dite (ℕ_discrete k r.link)
        (λ e. subst (λ j. stand p c' (set views i w) j ≡ stand p c views j) (sym e) (here (ap (λ (hs : List (Option Home)). link_home (λ (h : Home). h) p hs r.link) homes)))
        (λ ne. ap (λ rs. by_rights rs (home_of p c' k) (flat_map (hands_on k) (set views i w))) (gather_same (rights_on k) views i v w at (ap (filter (λ (x : Right). eqb x.link k)) rights ∙ sym (none_on k ne)))
        ∙ ap (λ h. by_rights ((tokens views).rights k) h (flat_map (hands_on k) (set views i w))) same
        ∙ ap (λ hs. by_rights ((tokens views).rights k) (home_of p c k) hs) (gather_same (hands_on k) views i v w at (ap (filter (λ (x : Hand). eqb x.link k)) hands)))
      where
        idle : (b : Bool) → r.taken ≡ b → b ≡ false
        idle false e = refl
        idle true e = let w' = o.messages.taken_writes r.link r inside alone e in let q : stages.Writes w'.0 ≡ stages.Empties = sym w'.1 ∙ stage in cc

        slot : (j : ℕ) × (o.slot r.link ≡ some j)
        slot = right_slot o i 0 v r at has

        here : home_of p c' r.link ≡ home_of p c r.link → stand p c' (set views i w) r.link ≡ stand p c views r.link
        here same = ap (λ rs. by_rights rs (home_of p c' r.link) (flat_map (hands_on r.link) (set views i w))) (gather_own (rights_on r.link) views i v w at all_own ∙ ap (filter (λ (x : Right). eqb x.link r.link)) rights)
            ∙ (ap (by_home (home_of p c' r.link)) (gather_same (hands_on r.link) views i v w at (ap (filter (λ (x : Hand). eqb x.link r.link)) hands) ∙ no_hand p c views o i v at r.link slot.0 slot.1)
            ∙ ap (λ h. by_home h []) (same ∙ o.homes.busy r.link r inside alone ∙ ap (λ b. cond b (some (r.sent, r.places)) none) home)
            ∙ ((λ j. record { placed = r.places; took = sym (ap (λ b. cond b (r.sent ++ take r.put r.bytes) r.sent) (idle r.taken refl)) j }) ∙ sym stands_by))

    -- ## When a message gets its place, and when the link takes some of it

    counted : r.places ≡ o.places r.link
    counted = o.delivered.counted r.link r inside alone

    module _ (orders : (k : ℕ) → IsOrder (messages p c views) k (on k o.log)) where
      module _ (now : ℕ) (stage : r.stage ≡ stages.Writes now) where
        room : o.places r.link < length (on r.link o.log)
        room = writes_room o.chains r.link r now inside alone stage

        pub next : (e : Entry) × (get_elem? (on r.link o.log) (o.places r.link) ≡ some e)
        next = at_some (on r.link o.log) (o.places r.link) room

        placed_is : (messages p c views).placed r.link ≡ o.places r.link
        placed_is = ap (λ (s : Stand). s.placed) stands_by ∙ counted

        took_is : r.taken ≡ true → (messages p c views).took r.link ≡ r.sent ++ take r.put r.bytes
        took_is taken = ap (λ (s : Stand). s.took) stands_by ∙ ap (λ b. cond b (r.sent ++ take r.put r.bytes) r.sent) taken

        pub bytes_are : r.taken ≡ true → r.bytes ≡ next.0.bytes
        bytes_are taken = (o.messages.in_hand r.link r next.0 inside alone taken next.1).1

        sent_is : r.clean ≡ true → r.sent ≡ whole (on r.link o.log) (o.places r.link)
        sent_is clean = let all = o.delivered.clean r.link r inside alone clean in o.delivered.sent_whole r.link r inside alone all ∙ ap (whole (on r.link o.log)) all

        pub place_may : r.taken ≡ true → r.clean ≡ true → r.put ≡ length r.bytes → MayCome (messages p c views) (Place r.link)
        place_may taken clean put = (
          on r.link o.log,
          orders r.link,
          subst (λ n. n < length (on r.link o.log)) (sym placed_is) room,
          took_is taken ∙ ap₂ (λ (x y : List ℕ). x ++ y) (sent_is clean) (ap (λ n. take n r.bytes) put ∙ take-length r.bytes ∙ bytes_are taken)
              ∙ sym (whole_suc (on r.link o.log) (o.places r.link) next.0 next.1) ∙ ap (λ n. whole (on r.link o.log) (suc n)) (sym placed_is),
        )

        pub drop_may : r.taken ≡ true → Taken (on r.link o.log) (o.kept r.link) (r.sent ++ take r.put r.bytes) → MayCome (messages p c views) (Dropped r.link)
        drop_may taken part = (
          on r.link o.log,
          o.kept r.link,
          orders r.link,
          subst (λ n. n < length (on r.link o.log)) (sym placed_is) room,
          subst (λ n. o.kept r.link ≤ n) (sym placed_is) (o.delivered.kept_fits r.link inside),
          subst (Taken (on r.link o.log) (o.kept r.link)) (sym (took_is taken)) part,
        )

        pub dropped_part : (sent : List ℕ) → r.taken ≡ true → sent ≡ r.sent ++ take r.put r.bytes
            → (sent ≡ r.sent) ⊎ ((r.clean ≡ true) × (part : List ℕ) × (rest : List ℕ) × (sent ≡ r.sent ++ part) × (r.bytes ≡ part ++ rest) × (rest ≢ [])) → Taken (on r.link o.log) (o.kept r.link) (r.sent ++ take r.put r.bytes)
        dropped_part sent taken all part = ⊎_elim
            (λ none_. subst (Taken (on r.link o.log) (o.kept r.link)) (sym none_ ∙ all) (o.delivered.sent r.link r inside alone))
            (λ some_. let kept_all = o.delivered.clean r.link r inside alone some_.0 in record {
              part = some_.1;
              took_is = sym all ∙ (some_.3 ∙ ap (λ l. l ++ some_.1) (o.delivered.sent_whole r.link r inside alone kept_all));
              of_next = inr (next.0, some_.2, ap (get_elem? (on r.link o.log)) kept_all ∙ next.1, sym (bytes_are taken) ∙ some_.4, some_.5);
            })
            part

        pub take_may : (n : ℕ) (bytes rest : List ℕ) → r.taken ≡ true → r.clean ≡ true → drop r.put r.bytes ≡ bytes ++ rest → 0 < n → n ≤ length bytes → MayCome (messages p c views) (Take r.link (take n bytes))
        take_may n bytes rest taken clean left some_ fits = (
          on r.link o.log,
          next.0,
          take r.put r.bytes,
          drop n bytes ++ rest,
          orders r.link,
          ap (get_elem? (on r.link o.log)) placed_is ∙ next.1,
          took_is taken ∙ ap (λ l. l ++ take r.put r.bytes) (sent_is clean ∙ ap (whole (on r.link o.log)) (sym placed_is)),
          sym (bytes_are taken) ∙ (sym (take-append-drop r.put r.bytes) ∙ ap (λ l. take r.put r.bytes ++ l) (left ∙ ap (λ l. l ++ rest) (sym (take-append-drop n bytes)) ∙ append_assoc (take n bytes) (drop n bytes) rest) ∙ sym (append_assoc (take r.put r.bytes) (take n bytes) (drop n bytes ++ rest))),
          some_bytes n bytes some_ fits,
        )
          where
            some_bytes : (m : ℕ) (bs : List ℕ) → 0 < m → m ≤ length bs → take m bs ≢ []
            some_bytes zero bs a b = absurd (omega (arith, a))
            some_bytes (suc m) [] a b = absurd (omega (arith, b))
            some_bytes (suc m) (x ∷ xs) a b = λ e. cc

    -- what the link took behind a put
    pub took_more : (n : ℕ) (bytes rest : List ℕ) → r.taken ≡ true → drop r.put r.bytes ≡ bytes ++ rest → n ≤ length bytes → taken_of (put_right r n) ≡ taken_of r ++ take n bytes
    took_more n bytes rest taken left fits =
        ap (λ b. cond b (r.sent ++ take (r.put + n) r.bytes) r.sent) taken
        ∙ (ap (λ l. r.sent ++ l) (take-add r.put n r.bytes ∙ ap (λ l. take r.put r.bytes ++ l) (ap (take n) left ∙ take-append-le n bytes rest fits)) ∙ sym (append_assoc r.sent (take r.put r.bytes) (take n bytes))
        ∙ ap (λ l. l ++ take n bytes) (sym (ap (λ b. cond b (r.sent ++ take r.put r.bytes) r.sent) taken)))
