-- A life that is made, step by step.
use Rattle.std.proofs.Common.{◌≡◌, ◌≢◌, ℕ, ◌+◌, ◌<◌, List, [], ◌∷◌, ◌++◌, append-nil, cond, eq-eqb, ne_eqb, refl, sym, ap, ◌∙◌, subst, arith}
use mathlib.Core.Logic.{dite}
use native.Mathlib.Decide.{ℕ_discrete}
use Rattle.sock_words.specs.declared.plain.Plan.{Plan}
use Rattle.sock_words.specs.PackedWords.{socket_id, socket_id_version, socket_id_slot, vref_version}
use Rattle.sock_model.specs.declared.marks.Mark.{Mark}
use Rattle.sock_model.specs.declared.marks.Mark.TheVariants.{Claimed, Tried, Known, Born, Linked}
use Rattle.sock_model.specs.declared.view.View.{View}
use Rattle.sock_model.specs.MarkWeights.{only, is_ref, is_stage, is_claimed, is_probe, is_any_coding, is_zero, is_known, is_tried}
use Rattle.sock_model.specs.Marks.{about, at, without_at, without_pass}
use Rattle.sock_model.specs.ViewsOfSplitSeats.{carrier, joined}
use Rattle.sock_model.specs.SlotRows.{marks_of, claimed, linked, staged, gave_birth}
use Rattle.sock_rule.specs.slot_steps.proofs.RuleNumbers.{only-same, only-else, pair-same, pair_only}
use Rattle.sock_rule.specs.slot_steps.proofs.SlotWeightSums.{total-append}
use Rattle.sock_rule.specs.slot_steps.proofs.ReferenceStepsKeepSlot.{stage_is}
use Rattle.sock_rule.specs.SocketSeatSplits.{IsDone}
use Rattle.sock_rule.specs.MarksComeAndGo.{Became}
use Rattle.sock_rule.proofs.MarksComeAndGo.{then_, becomes, adds_mark, drops_mark}
use Rattle.sock_table.specs.ReferenceCalls.{IsBetween, SameTokens}
use Rattle.sock_rule.specs.OnTable.{is_put, put_in}
use Rattle.sock_table.specs.LinkPasses.{Made, TriedTo, Created}
use Rattle.sock_words.specs.Totals.{total}

-- a claim has one stage
other_stage : (n k m d : ℕ) → m ≢ n → is_stage n k (Claimed m d) ≡ 0
other_stage n k m d ne = let a = pair_only n k m d in let b = only-else n m ne in omega arith

-- a pass's seat has nothing that keeps it from being taken in
pub pass_done : (p : Plan) (v : View) (k : ℕ) → v ≡ carrier p (k ∷ []) → IsDone p v
pass_done p v k is = subst (IsDone p) (sym is) record { bare = record { claims = refl; loose = refl; rights = refl; hands = refl }; unheld = λ i l. refl }

pub spent_alone : (k : ℕ) → without_pass k (k ∷ []) ≡ []
spent_alone k = ap (λ b. cond b [] (k ∷ [])) (eq-eqb k k refl)

-- what the pass's seat brings
module _ (p : Plan) (u a x : View) (k : ℕ) (is : x ≡ carrier p (k ∷ [])) (took_in : a ≡ joined u x) where
  pub marks_same : a.marks ≡ u.marks
  marks_same = ap (λ (y : View). y.marks) took_in ∙ (ap (λ (y : View). u.marks ++ y.marks) is ∙ append-nil u.marks)

  pub pass_alone : u.passes ≡ [] → a.passes ≡ k ∷ []
  pass_alone none_ = ap (λ (y : View). y.passes) took_in ∙ (ap (λ (y : View). u.passes ++ y.passes) is ∙ ap (λ (l : List ℕ). l ++ k ∷ []) none_)

  pub pass_there : 0 < total (only k) a.passes
  pass_there = let e = ap (λ (y : View). total (only k) y.passes) took_in in let f = ap (λ (y : View). total (only k) (u.passes ++ y.passes)) is in let g = total-append (only k) u.passes (k ∷ []) in let s = only-same k in omega arith

  module _ (i : ℕ) (has_claim : 0 < marks_of (is_stage 0 0) i u) where
    pub claimed_still : 0 < marks_of (is_stage 0 0) i a
    claimed_still = subst (λ es. 0 < total (is_stage 0 0) (about i es)) (sym marks_same) has_claim

    module _ (b : View) (stored : b ≡ linked i k a) where
      -- the claim has its link; the pass that it cost aside
      one : Became i (record a { passes = b.passes }) b (Claimed 1 k ∷ []) (Claimed 0 0 ∷ [])
      one = becomes i (stored ∙ ap (λ l. record a { marks = at i (Claimed 1 k) ∷ without_at i (is_stage 0 0) a.marks; passes = l }) (ap (λ (y : View). y.passes) (sym stored)))
          (then_ i (drops_mark i (is_stage 0 0) (Claimed 0 0) record a { passes = b.passes } (stage_is 0 0) claimed_still) (adds_mark i (Claimed 1 k) record a { marks = without_at i (is_stage 0 0) a.marks; passes = b.passes }))

      pub stage_one : 0 < marks_of (is_stage 1 k) i b
      stage_one = let x = one.here (is_stage 1 k) in let s = pair-same 1 k in let o = other_stage 1 k 0 0 (λ q. omega arith) in omega arith

      next_stage : (n m : ℕ) (y z : View) → 0 < marks_of (is_stage n k) i y → z ≡ staged i n k m y → Became i y z (Claimed m k ∷ []) (Claimed n k ∷ [])
      next_stage n m y z there e = becomes i e (then_ i (drops_mark i (is_stage n k) (Claimed n k) y (stage_is n k) there) (adds_mark i (Claimed m k) record y { marks = without_at i (is_stage n k) y.marks }))

      module _ (c : View) (reset : c ≡ staged i 1 k 2 b) where
        two : Became i (record a { passes = b.passes }) c (Claimed 1 k ∷ Claimed 2 k ∷ []) (Claimed 0 0 ∷ Claimed 1 k ∷ [])
        two = then_ i one (next_stage 1 2 b c stage_one reset)

        pub stage_two : 0 < marks_of (is_stage 2 k) i c
        stage_two = let x = (next_stage 1 2 b c stage_one reset).here (is_stage 2 k) in let s = pair-same 2 k in let o = other_stage 2 k 1 k (λ q. omega arith) in omega arith

        module _ (d : View) (wiped : d ≡ staged i 2 k 3 c) where
          three : Became i (record a { passes = b.passes }) d (Claimed 1 k ∷ Claimed 2 k ∷ Claimed 3 k ∷ []) (Claimed 0 0 ∷ Claimed 1 k ∷ Claimed 2 k ∷ [])
          three = then_ i two (next_stage 2 3 c d stage_two wiped)

          pub stage_three : 0 < marks_of (is_stage 3 k) i d
          stage_three = let x = (next_stage 2 3 c d stage_two wiped).here (is_stage 3 k) in let s = pair-same 3 k in let o = other_stage 3 k 2 k (λ q. omega arith) in omega arith

          module _ (found id : ℕ) (e : View) (born : e ≡ gave_birth i found k d) (small : i < 65536) (packed : id ≡ socket_id (vref_version found) i) where
            four : Became i d e (Linked (vref_version found) k ∷ Born (vref_version found) ∷ Known (vref_version found) ∷ []) (Claimed 3 k ∷ [])
            four = let h : ℕ = vref_version found in let r = without_at i (is_stage 3 k) d.marks in becomes i born
                (then_ i (then_ i (then_ i (drops_mark i (is_stage 3 k) (Claimed 3 k) d (stage_is 3 k) stage_three) (adds_mark i (Linked h k) record d { marks = without_at i (is_stage 3 k) d.marks }))
                (adds_mark i (Born h) record d { marks = at i (Linked h k) ∷ without_at i (is_stage 3 k) d.marks })) (adds_mark i (Known h) record d { marks = at i (Born h) ∷ at i (Linked h k) ∷ without_at i (is_stage 3 k) d.marks }))

            all : Became i (record a { passes = b.passes }) e (Claimed 1 k ∷ Claimed 2 k ∷ Claimed 3 k ∷ Linked (vref_version found) k ∷ Born (vref_version found) ∷ Known (vref_version found) ∷ []) (Claimed 0 0 ∷ Claimed 1 k ∷ Claimed 2 k ∷ Claimed 3 k ∷ [])
            all = then_ i three four

            pub made : Made p i id k u e
            made = let v : socket_id_version id ≡ vref_version found = omega arith in record {
              slot = omega arith;
              here = λ f. (let x = all.here f in let y = ap (λ es. total f (about i es)) marks_same in let l = ap (λ (n : ℕ). f (Linked n k)) v in let m = ap (λ (n : ℕ). f (Born n)) v in let n = ap (λ (n : ℕ). f (Known n)) v in omega arith);
              elsewhere = λ j ne. all.elsewhere j ne ∙ ap (about j) marks_same;
              tokens = record {
                refs = λ j jl. dite (ℕ_discrete j i)
                    (λ q. subst (λ (y : ℕ). marks_of is_ref y e ≡ marks_of is_ref y u) (sym q) (let x = all.here is_ref in let y = ap (λ es. total is_ref (about i es)) marks_same in omega arith))
                    (λ ne. ap (total is_ref) (all.elsewhere j ne ∙ ap (about j) marks_same));
                claims = ap (λ (y : View). y.claims) all.others ∙ ap (λ (y : View). y.claims) took_in;
                loose = ap (λ (y : View). y.loose) all.others ∙ ap (λ (y : View). y.loose) took_in;
                rights = ap (λ (y : View). y.rights) all.others ∙ ap (λ (y : View). y.rights) took_in;
                hands = ap (λ (y : View). y.hands) all.others ∙ ap (λ (y : View). y.hands) took_in;
                lists = ap (λ (y : View). y.lists) all.others ∙ (ap (λ (y : View). y.lists) took_in ∙ (ap (λ (y : View). u.lists ++ y.lists) is ∙ append-nil u.lists));
                share = (let e = ap (λ (y : View). y.share) all.others in let f = ap (λ (y : View). y.share) took_in in let g = ap (λ (y : View). y.share) is in omega arith);
              };
              passes = λ none_. ap (λ (y : View). y.passes) all.others ∙ (ap (λ (y : View). y.passes) stored ∙ (ap (without_pass k) (pass_alone none_) ∙ spent_alone k));
              found = ap (λ (y : View). y.found) all.others ∙ (ap (λ (y : View). y.found) took_in ∙ (ap (λ (y : View). u.found ++ y.found) is ∙ append-nil u.found));
              finds = ap (λ (y : View). y.finds) all.others ∙ (ap (λ (y : View). y.finds) took_in ∙ (ap (λ (y : View). u.finds ++ y.finds) is ∙ append-nil u.finds));
              histories = ap (λ (y : View). y.histories) all.others ∙ (ap (λ (y : View). y.histories) took_in ∙ (ap (λ (y : View). u.histories ++ y.histories) is ∙ append-nil u.histories));
              drops = ap (λ (y : View). y.drops) all.others ∙ (ap (λ (y : View). y.drops) took_in ∙ (ap (λ (y : View). u.drops ++ y.drops) is ∙ append-nil u.drops));
              stores = λ z n. (let q = ap (put_in z n) all.others ∙ (ap (put_in z n) took_in ∙ ap (λ (y : View). total (total (is_put z n)) (u.stores ++ y.stores)) is) in let s = total-append (total (is_put z n)) u.stores ([] ∷ []) in omega arith);
            }

-- A1: the tag was found taken, or free
pub tries : (i found : ℕ) (v w : View) → w ≡ claimed i found v → found ≢ 0 → Became i v w (Tried ∷ []) []
tries i found v w is ne = becomes i (is ∙ ap (λ b. record v { marks = at i (cond b (Claimed 0 0) Tried) ∷ v.marks }) (ne_eqb found 0 ne)) (adds_mark i Tried v)

pub wins : (i found : ℕ) (v w : View) → w ≡ claimed i found v → found ≡ 0 → Became i v w (Claimed 0 0 ∷ []) []
wins i found v w is e = becomes i (is ∙ ap (λ b. record v { marks = at i (cond b (Claimed 0 0) Tried) ∷ v.marks }) (eq-eqb found 0 e)) (adds_mark i (Claimed 0 0) v)

pub won_claim : (i : ℕ) (v w : View) → Became i v w (Claimed 0 0 ∷ []) [] → 0 < marks_of (is_stage 0 0) i w
won_claim i v w b = let x = b.here (is_stage 0 0) in let s = pair-same 0 0 in omega arith

module _ (p : Plan) (i id k : ℕ) (v w x : View) (b : IsBetween p v) (won : Became i v w (Claimed 0 0 ∷ []) []) (m : Made p i id k w x) where
  both : (f : Mark → ℕ) (j : ℕ) → marks_of f j v ≡ 0 → f (Linked (socket_id_version id) k) ≡ 0 → f (Born (socket_id_version id)) ≡ 0 → f (Known (socket_id_version id)) ≡ 0 → marks_of f j x ≡ 0
  both f j none_ l o n = dite (ℕ_discrete j i)
      (λ e. subst (λ (y : ℕ). marks_of f y x ≡ 0) (sym e) (let z : marks_of f i v ≡ 0 = subst (λ (y : ℕ). marks_of f y v ≡ 0) e none_ in let a = won.here f in let c = m.here f in omega arith))
      (λ ne. ap (total f) (m.elsewhere j ne ∙ won.elsewhere j ne) ∙ none_)

  pub made_between : IsBetween p x
  made_between = record {
    unclaimed = λ j jl. both is_claimed j (b.unclaimed j jl) refl refl refl;
    unprobed = λ j jl. both is_probe j (b.unprobed j jl) refl refl refl;
    uncoding = λ j jl. both is_any_coding j (b.uncoding j jl) refl refl refl;
    no_zero = λ j z jl. both (is_zero z) j (b.no_zero j z jl) refl refl refl;
    no_rights = m.tokens.rights ∙ (ap (λ (y : View). y.rights) won.others ∙ b.no_rights);
    empty = m.tokens.hands ∙ (ap (λ (y : View). y.hands) won.others ∙ b.empty);
    no_passes = m.passes (ap (λ (y : View). y.passes) won.others ∙ b.no_passes);
  }

  pub made_known : 0 < marks_of (is_known (socket_id_version id)) (socket_id_slot id) x
  made_known = subst (λ (j : ℕ). 0 < marks_of (is_known (socket_id_version id)) j x) (sym m.slot) (let c = m.here (is_known (socket_id_version id)) in let s = only-same (socket_id_version id) in omega arith)

-- a slot that was tried stays so
pub still_tried : (i j : ℕ) (v w : View) → Became i v w (Tried ∷ []) [] → 0 < marks_of is_tried j v → 0 < marks_of is_tried j w
still_tried i j v w b there = dite (ℕ_discrete j i) (λ e. subst (λ (y : ℕ). 0 < marks_of is_tried y w) (sym e) (let x = b.here is_tried in omega arith)) (λ ne. let e = ap (total is_tried) (b.elsewhere j ne) in omega arith)

pub tried_more : (i at_ : ℕ) (v w : View) → Became i v w (Tried ∷ []) [] → at_ ≡ i → ((j : ℕ) → j < at_ → 0 < marks_of is_tried j v) → (j : ℕ) → j < at_ + 1 → 0 < marks_of is_tried j w
tried_more i at_ v w b same all j lt = dite (ℕ_discrete j i) (λ e. subst (λ (y : ℕ). 0 < marks_of is_tried y w) (sym e) (let x = b.here is_tried in omega arith)) (λ ne. still_tried i j v w b (all j (omega arith)))

pub none_tried : (v : View) → TriedTo 0 v v
none_tried v = record { each = λ j jl. absurd (omega arith); elsewhere = λ j le. refl; others = refl }

pub one_tried : (i : ℕ) (u v w : View) → TriedTo i u v → Became i v w (Tried ∷ []) [] → TriedTo (i + 1) u w
one_tried i u v w a b = record {
  each = λ j jl f. dite (ℕ_discrete j i)
      (λ e. subst (λ (y : ℕ). marks_of f y w ≡ marks_of f y u + f Tried) (sym e) (let x = b.here f in let z = ap (total f) (a.elsewhere i (omega arith)) in omega arith))
      (λ ne. ap (total f) (b.elsewhere j ne) ∙ a.each j (omega arith) f);
  elsewhere = λ j le. b.elsewhere j (λ e. omega arith) ∙ a.elsewhere j (omega arith);
  others = b.others ∙ ap (λ (y : View). record y { marks = w.marks }) a.others;
}

pub created : (p : Plan) (i id k : ℕ) (u v w x : View) → TriedTo i u v → Became i v w (Claimed 0 0 ∷ []) [] → Made p i id k w x → Created id k u x
created p i id k u v w x a won m = let at_id : socket_id_slot id ≡ i = m.slot in record {
  here = λ f. subst (λ (j : ℕ). marks_of f j x ≡ marks_of f j u + (f (Linked (socket_id_version id) k) + (f (Born (socket_id_version id)) + f (Known (socket_id_version id))))) (sym at_id)
      (let b = won.here f in let c = m.here f in let z = ap (total f) (a.elsewhere i (omega arith)) in omega arith);
  tried = λ j jl f. ap (total f) (m.elsewhere j (λ e. omega arith) ∙ won.elsewhere j (λ e. omega arith)) ∙ a.each j (omega arith) f;
  elsewhere = λ j lt. m.elsewhere j (λ e. omega arith) ∙ (won.elsewhere j (λ e. omega arith) ∙ a.elsewhere j (omega arith));
  found = m.found ∙ (ap (λ (y : View). y.found) won.others ∙ ap (λ (y : View). y.found) a.others);
  finds = m.finds ∙ (ap (λ (y : View). y.finds) won.others ∙ ap (λ (y : View). y.finds) a.others);
  histories = m.histories ∙ (ap (λ (y : View). y.histories) won.others ∙ ap (λ (y : View). y.histories) a.others);
  drops = m.drops ∙ (ap (λ (y : View). y.drops) won.others ∙ ap (λ (y : View). y.drops) a.others);
  stores = λ z n. m.stores z n ∙ (ap (put_in z n) won.others ∙ ap (put_in z n) a.others);
}

-- ## What stays

pub same_none : (p : Plan) (v : View) → SameTokens p v v
same_none p v = record { refs = λ i il. refl; claims = refl; loose = refl; rights = refl; hands = refl; lists = refl; share = refl }

pub same_then : (p : Plan) (u v w : View) → SameTokens p u v → SameTokens p v w → SameTokens p u w
same_then p u v w a b = record { refs = λ i il. b.refs i il ∙ a.refs i il; claims = b.claims ∙ a.claims; loose = b.loose ∙ a.loose; rights = b.rights ∙ a.rights; hands = b.hands ∙ a.hands; lists = b.lists ∙ a.lists; share = b.share ∙ a.share }

pub became_same : (p : Plan) (i : ℕ) (v w : View) (adds drops : List Mark) → Became i v w adds drops → total is_ref adds ≡ total is_ref drops → SameTokens p v w
became_same p i v w adds drops b even = record {
  refs = λ j jl. dite (ℕ_discrete j i) (λ e. subst (λ (y : ℕ). marks_of is_ref y w ≡ marks_of is_ref y v) (sym e) (let x = b.here is_ref in omega arith)) (λ ne. ap (total is_ref) (b.elsewhere j ne));
  claims = ap (λ (y : View). y.claims) b.others;
  loose = ap (λ (y : View). y.loose) b.others;
  rights = ap (λ (y : View). y.rights) b.others;
  hands = ap (λ (y : View). y.hands) b.others;
  lists = ap (λ (y : View). y.lists) b.others;
  share = ap (λ (y : View). y.share) b.others;
}

pub made_same : (p : Plan) (i id k : ℕ) (v w x : View) → Became i v w (Claimed 0 0 ∷ []) [] → Made p i id k w x → SameTokens p v x
made_same p i id k v w x won m = same_then p v w x (became_same p i v w (Claimed 0 0 ∷ []) [] won refl) m.tokens
