-- Which messages were dropped, once all seats have ended.
use Rattle.std.proofs.Common.{◌≡◌, ℕ, zero, suc, ◌*◌, ◌<◌, ◌≤◌, map, sym, ap, ◌∙◌, subst, arith}
use mathlib.Core.Option.{some}
use lib.ListN.{get_elem?}
use Rattle.atomic_table.specs.Table.{State}
use Rattle.sock_words.specs.declared.plain.Plan.{Plan}
use Rattle.sock_model.specs.declared.chain.Heading.{Heading}
use Rattle.sock_model.specs.declared.home.Home.{Home}
use Rattle.sock_model.specs.declared.view.View.{View}
use Rattle.sock_model.specs.MarkWeights.{only, pair}
use Rattle.sock_model.specs.Authors.{pick}
use Rattle.sock_model.specs.SocketTableLayout.{place_index}
use Rattle.chain_core.specs.slot_steps.proofs.RuleNumbers.{only_is, only_le, pair_is}
use Rattle.chain_core.specs.slot_steps.proofs.SlotWeightSums.{total_some}
use Rattle.sock_rule.specs.OnTable.{put_in, is_labelled, labelled_in, is_headed, headed_in, OnTable}
use Rattle.sock_rule.specs.ClosingWordsAndNotes.{PlacesDiffer, IsDropTold, IsLogged}
use Rattle.sock_rule.proofs.LastSeatOfSockets.{others, put_is, only_one}
use Rattle.sock_rule.proofs.WeightedEntryCounts.{names_weight, one_at_most}
use Rattle.sock_words.specs.PackedWords.{DROPPED}
use Rattle.sock_words.specs.Totals.{total}

-- where a product isn't 0, neither part is
both_some : (a b : ℕ) → 0 < a * b → (0 < a) × (0 < b)
both_some zero b some_ = absurd (omega (arith, some_))
both_some (suc a) zero some_ = absurd (omega (arith, some_))
both_some (suc a) (suc b) some_ = (omega arith, omega arith)

module _ {S : Type 0} {shows : S → Home} {rose : S → ℕ} {p : Plan} (s : State S View) (t : OnTable shows rose p s) (id : ℕ) (v : View) (here : get_elem? s.views id ≡ some v) (all : v.share ≡ p.seats) where
  -- where the places of all labels differ, one accepted message at most has this index
  one_labelled : PlacesDiffer t.rule.lawful.log → (l : ℕ) → total (labelled_in l) s.views ≤ 1
  one_labelled apart l = let a = t.rule.lawful.authors in let log = t.rule.lawful.log in
      let own : total (labelled_in l) s.views ≡ labelled_in l v = only_one (labelled_in l) s.views id v here (λ j u e ne. ap (total (total (is_labelled l))) (others s t id v here all j u e ne).lists) in
      let lists : labelled_in l v ≡ total (total (is_labelled l)) (map (λ b. pick b a.by t.rule.lawful.log) (a.names id)) = ap (total (total (is_labelled l))) (a.lists_are id v here) in
      omega (
        arith,
        names_weight (is_labelled l) (a.names id) a.by t.rule.lawful.log a.long (λ i k b e f. (a.apart id i id k b e f).1),
        one_at_most (is_labelled l) t.rule.lawful.log (λ i j x y g h m n. apart i j x y g h (only_is l x.heading.label.place m ∙ sym (only_is l y.heading.label.place n))) (λ x. only_le l x.heading.label.place),
      )

  pub drop_told : (l : ℕ) → l < 8 * p.operations → IsDropTold p t.rule.lawful.log v s.words l
  drop_told l ll = let k = t.drops l ll in let word = t.settled.places l ll in record {
    told = subst (λ (n : ℕ). DROPPED ≤ n → 0 < put_in (place_index p l) n v) (sym word) (λ high. omega (arith, k.told high, put_is s t id v here all (place_index p l) (t.placed l)));
    stays = λ apart n some_. let a = k.stays (one_labelled apart l) n (omega (arith, put_is s t id v here all (place_index p l) n)) in (word ∙ a.0, a.1);
  }

  -- each message that the seat dropped, or one that it took in, is in the log
  pub dropped_logged : (n : ℕ) (h : Heading) → get_elem? v.drops n ≡ some h → IsLogged t.rule.lawful.log h
  dropped_logged n h e = let a = t.rule.lawful.authors in
      let own : total (headed_in h) s.views ≡ headed_in h v = only_one (headed_in h) s.views id v here (λ j u f ne. ap (total (total (is_headed h))) (others s t id v here all j u f ne).lists) in
      let lists : headed_in h v ≡ total (total (is_headed h)) (map (λ b. pick b a.by t.rule.lawful.log) (a.names id)) = ap (total (total (is_headed h))) (a.lists_are id v here) in
      let less = names_weight (is_headed h) (a.names id) a.by t.rule.lawful.log a.long (λ i k b f g. (a.apart id i id k b f g).1) in
      let w = total_some (is_headed h) t.rule.lawful.log (omega (arith, t.dropped_was id v here n h e, own, lists, less)) in
      let both = both_some (only h.label.place w.1.heading.label.place) (pair h.label.attempt h.owner w.1.heading.label.attempt w.1.heading.owner) w.3 in
      let rest_ = pair_is h.label.attempt h.owner w.1.heading.label.attempt w.1.heading.owner both.1 in
      record { position = w.0; entry = w.1; there = w.2; place_is = only_is h.label.place w.1.heading.label.place both.0; attempt_is = rest_.0; owner_is = rest_.1 }
