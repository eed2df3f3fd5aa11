-- A note that no law weighs comes or goes: the rule of the sockets stays.
use Rattle.std.proofs.Common.{◌≡◌, ℕ, ◌+◌, ◌-◌, ◌/◌, ◌%◌, List, get_or, set, length-set, inl, refl, sym, ap, ◌∙◌, subst, arith}
use mathlib.Core.Option.{some}
use lib.ListN.{get_elem?}
use lib.Seq.{map-set}
use Rattle.atomic_table.specs.Table.{State}
use Rattle.atomic_table.proofs.Lists.{at_map}
use Rattle.sock_words.specs.declared.plain.Plan.{Plan}
use Rattle.sock_model.specs.declared.home.Home.{Home}
use Rattle.sock_model.specs.declared.marks.Mark.{Mark}
use Rattle.sock_model.specs.declared.marks.Mark.TheVariants.{Handed}
use Rattle.sock_model.specs.declared.view.View.{View}
use Rattle.sock_model.specs.MarkWeights.{only, tally, is_claimed, is_recycling, is_busy, is_ref, is_any_coding, is_tried, is_stage, is_recycled, is_hold, is_zero, is_coding, is_known, is_born, is_saw, is_failer, is_freer, is_coded, is_stored, is_told, is_linked, is_met, is_reset}
use Rattle.sock_model.specs.Marks.{about}
use Rattle.sock_model.specs.SocketTableLayout.{name_index, open_index}
use Rattle.sock_model.specs.SocketSlotLaw.{SlotFacts, live_by, live, count, KeepsCodes, SlotLaw}
use Rattle.sock_model.specs.SlotRows.{marks_of}
use Rattle.sock_model.specs.References.{uses_of, uses_link, sayers, spare, slot_facts, Names, Stores, References}
use Rattle.sock_model.specs.ChainLawReads.{waits_link}
use Rattle.sock_model.specs.LawfulSockets.{Lawful}
use Rattle.sock_model.specs.Rule.{Rule}
use Rattle.chain_core.specs.slot_steps.proofs.ReferenceStepsKeepSlot.{moved, few_with}
use Rattle.chain_core.specs.slot_steps.proofs.SlotWeightSums.{total-set, each_set}
use Rattle.chain_core.specs.sock_steps.proofs.LifeLinkSlotPlaces.{counts}
use Rattle.chain_core.specs.sock_steps.proofs.RuleFrame.{lasts_all, same_rule}
use Rattle.chain_core.specs.sock_steps.proofs.SlotFrame.{still_holds, slot_frame}
use Rattle.sock_words.specs.Totals.{total}

-- a weight that such a note has not
abbrev pub Light : (Mark → ℕ) → Type 0
Light f = (h n : ℕ) → f (Handed h n) ≡ 0

-- of a slot
module _ (first : ℕ) (l : SlotFacts) (law : SlotLaw first (live l) l) (j : ℕ) (m : List Mark) (here : get_elem? l.marks j ≡ some m) (w : List Mark) (same : (f : Mark → ℕ) → Light f → total f w ≡ total f m) where
  by : (f : Mark → ℕ) → Light f → tally f (set l.marks j w) ≡ tally f l.marks
  by f light = omega (arith, moved first l law j m here w f, same f light)

  pub keeps_light : SlotLaw first (live l) record l { marks = set l.marks j w }
  keeps_light = record {
    tag = record {
      tagged = law.tagged;
      busy_once = omega (arith, by is_busy (λ h n. refl), law.busy_once);
      busy_taken = λ p. law.busy_taken (omega (arith, by is_busy (λ h n. refl)));
      busy_even = λ p. law.busy_even (omega (arith, by is_busy (λ h n. refl)));
      free_even = law.free_even;
      free_low = law.free_low;
      claimed_low = λ p. law.claimed_low (omega (arith, by is_claimed (λ h n. refl)));
      recycled = λ v p. law.recycled v (omega (arith, by (is_recycled v) (λ h n. refl)));
      taken_by = λ p. omega (arith, by is_claimed (λ h n. refl), by is_tried (λ h n. refl), law.taken_by);
      staged = λ n k p. law.staged n k (omega (arith, by (is_stage n k) (λ g x. refl)));
    };
    word = record {
      counted = omega (arith, by is_ref (λ h n. refl), law.counted);
      few = few_with first l law j m here w (let a = law.few j m here in omega (arith, same is_ref (λ h n. refl)));
      begun = law.begun;
      top = law.top;
      held = λ h p. law.held h (omega (arith, by (is_hold h) (λ g n. refl)));
      saw = λ v p. law.saw v (omega (arith, by (is_saw v) (λ h n. refl)));
      zero_noted = λ p q. omega (arith, by (is_zero l.version) (λ h n. refl), law.zero_noted p q);
      known = λ g p. law.known g (omega (arith, by (is_known g) (λ h n. refl)));
      born = λ h. omega (arith, by (is_born h) (λ g n. refl), law.born h);
      failed = λ h. omega (arith, by (is_failer h) (λ g n. refl), law.failed h);
      ended = λ h. omega (arith, by (is_freer h) (λ g n. refl), law.ended h);
    };
    code = record {
      codes = each_set KeepsCodes l.marks j w law.codes (
        (λ h. omega (arith, (law.codes j m here).0 h, same (is_failer h) (λ g n. refl), same (is_coding h) (λ g n. refl), same (is_coded h) (λ g n. refl))),
        (λ h p. let t = (law.codes j m here).1 h (omega (arith, same (is_coding h) (λ g n. refl))) in let a = t.0 in let b = t.1 in (omega (arith, same (is_hold h) (λ g n. refl)), omega (arith, same (is_saw (h + 1)) (λ g n. refl)))),
      );
      coding_once = omega (arith, by is_any_coding (λ h n. refl), law.coding_once);
      coding_odd = λ p. law.coding_odd (omega (arith, by is_any_coding (λ h n. refl)));
      code_none = λ p. law.code_none (omega (arith, by is_any_coding (λ h n. refl)));
      code_is = λ h c p. law.code_is h c (omega (arith, by (is_stored h c) (λ g n. refl)));
      code_even = λ h c p. law.code_even h c (omega (arith, by (is_stored h c) (λ g n. refl)));
      code_by = λ p q. omega (arith, by (is_stored (l.version - 1) l.code) (λ g n. refl), law.code_by p q);
      told = λ h c p. omega (arith, by (is_stored h c) (λ g n. refl), law.told h c (omega (arith, by (is_told h c) (λ g n. refl))));
    };
    link = record {
      link_low = λ h k p. law.link_low h k (omega (arith, by (is_linked h k) (λ g x. refl)));
      link_even = λ h k p. law.link_even h k (omega (arith, by (is_linked h k) (λ g x. refl)));
      link_begun = λ h k p. law.link_begun h k (omega (arith, by (is_linked h k) (λ g x. refl)));
      met = λ g c p. omega (arith, by (is_linked g c) (λ h x. refl), law.met g c (omega (arith, by (is_met g c) (λ h x. refl))));
      link_is = λ h k p q. law.link_is h k (omega (arith, by (is_linked h k) (λ g x. refl))) (omega (arith, by is_recycling (λ g x. refl)));
      link_live = λ p. omega (arith, by (is_linked l.version l.link) (λ g x. refl), law.link_live p);
      link_odd = λ p. omega (arith, by (is_linked (l.version - 1) l.link) (λ g x. refl), law.link_odd p);
      link_last = λ p. omega (arith, by (is_linked (l.version - 2) l.link) (λ g x. refl), law.link_last (omega (arith, by is_recycling (λ g x. refl))));
    };
  }

-- the view w is v but for such notes
pub record Alike (v w : View) : Type 0 where
  pub marks : (f : Mark → ℕ) → Light f → (j : ℕ) → marks_of f j w ≡ marks_of f j v
  pub uses : (k : ℕ) → total (uses_link k) w.marks ≡ total (uses_link k) v.marks
  pub waits : (k : ℕ) → total (waits_link k) w.marks ≡ total (waits_link k) v.marks
  pub others : w ≡ record v { marks = w.marks }

module _ {S : Type 0} (shows : S → Home) (p : Plan) (s : State S View) (id : ℕ) (v w : View) (here : get_elem? s.views id ≡ some v) (a : Alike v w) where
  abbrev t : State S View
  t = record { words = s.words; homes = s.homes; views = set s.views id w }

  at_slot : (i : ℕ) → slot_facts t i ≡ record (slot_facts s i) { marks = set (slot_facts s i).marks id (about i w.marks) }
  at_slot i = ap (λ (ms : List (List Mark)). record (slot_facts s i) { marks = ms }) (map-set (λ (u : View). about i u.marks) s.views id w)

  count_same : (g : Mark → ℕ) → Light g → (j : ℕ) → count g (slot_facts t j) ≡ count g (slot_facts s j)
  count_same g light j = omega (arith, counts s id v w here s.words s.homes g j, a.marks g light j)

  live_same : (i : ℕ) → live (slot_facts t i) ≡ live (slot_facts s i)
  live_same i = ap (live_by (slot_facts s i).tag (slot_facts s i).version) (count_same is_busy (λ h n. refl) i)

  law_same : (i : ℕ) → SlotLaw p.first (live (slot_facts s i)) (slot_facts s i) → SlotLaw p.first (live (slot_facts t i)) (slot_facts t i)
  law_same i law = subst (λ (n : ℕ). SlotLaw p.first n (slot_facts t i)) (sym (live_same i))
      (subst (λ (l : SlotFacts). SlotLaw p.first (live (slot_facts s i)) l) (sym (at_slot i))
      (keeps_light p.first (slot_facts s i) law id (about i v.marks) (at_map (λ (u : View). about i u.marks) s.views id v here) (about i w.marks) (λ g light. a.marks g light i)))

  stores_same : (y : ℕ) → Stores s y → Stores t y
  stores_same y b some_ = let z : ℕ = get_or s.words y 0 in omega (arith, b some_, total-set (sayers y z) s.views id v w here, ap (sayers y z) a.others)

  names_same : (n : ℕ) → Names p s n → Names p t n
  names_same n b ne = let r = b ne in let r1 = r.1 in (r.0, omega (arith, count_same (is_born ((n - 1) / 4294967296)) (λ h x. refl) ((n - 1) % 4294967296)))

  light_references : References p s → References p t
  light_references law = record {
    sized = law.sized;
    seat_limit = omega (arith, law.seat_limit, length-set s.views id w, total-set spare s.views id v w here, ap spare a.others);
    slots = λ i l. law_same i (law.slots i l);
    links = λ k. omega (arith, total-set (uses_of k) s.views id v w here, law.links k, a.uses k, ap (λ (u : View). total (only k) u.passes) a.others);
    named = record {
      names = λ n l. names_same (get_or s.words (name_index p n) 0) (law.named.names n l);
      opens = λ n l ne. names_same (get_or s.words (open_index p n) 0) (law.named.opens n l ne);
      names_by = λ n l. stores_same (name_index p n) (law.named.names_by n l);
      opens_by = λ n l. stores_same (open_index p n) (law.named.opens_by n l);
    };
  }

  light_law : Lawful shows p s → Lawful shows p t
  light_law o = slot_frame shows p s o id v w here s.words (a.others ∙ ap (λ (u : View). record v { marks = w.marks; passes = u.passes; stores = u.stores }) (sym a.others))
      record {
        given = λ j h k. a.marks (is_linked h k) (λ g n. refl) j;
        ended = λ j h. a.marks (is_freer h) (λ g n. refl) j;
        failed = λ j h. omega (arith, a.marks (is_failer h) (λ g n. refl) j);
        met = λ j h k. omega (arith, a.marks (is_met h k) (λ g n. refl) j);
        waits = λ k. omega (arith, a.waits k, ap (λ (u : View). total (only k) u.passes) a.others);
      }
      record { heads = λ k j e. refl; nexts = λ r l. refl; requests = λ r l. refl; places = λ l ll. refl }
      (λ j jl r. o.in_slots.reset j jl (omega (arith, count_same is_reset (λ h n. refl) j)))
      (still_holds p v w (λ j h k. omega (arith, a.marks (is_met h k) (λ g n. refl) j)) (λ j h. omega (arith, a.marks (is_hold h) (λ g n. refl) j)) (ap (λ (u : View). u.rights) a.others) (o.held id v here))
      (inl (λ j y. omega (arith, a.marks (is_recycled y) (λ g n. refl) j))) (light_references o.references)

  pub light_rule : Rule shows p s → v.plan ≡ p → Rule shows p record { words = s.words; homes = s.homes; views = set s.views id w }
  light_rule r mine = same_rule r id v here mine w s.words s.homes record { plan = ap (λ (u : View). u.plan) a.others; found = ap (λ (u : View). u.found) a.others; lists = ap (λ (u : View). u.lists) a.others } (lasts_all p s.words) (light_law r.lawful)
