-- What a seat has, whatever it noted: its tokens at one slot, the lives that it holds, its passes and its links in hand.
use Rattle.std.proofs.Common.{◌≡◌, ◌≢◌, ℕ, ◌+◌, ◌<◌, ◌≤◌, List, [], ◌∷◌, length, map, refl, sym, ap, ◌∙◌, subst, arith}
use mathlib.Core.List.{cons-ne-nil}
use mathlib.Core.Logic.{dite}
use mathlib.Core.Option.{some-ne-none}
use lib.ListN.{get_elem?}
use native.Mathlib.Decide.{ℕ_discrete}
use Rattle.sock_words.specs.PackedWords.{socket_id_version, socket_id_slot}
use Rattle.sock_model.specs.declared.chain.Entry.{Entry}
use Rattle.sock_model.specs.declared.marks.Mark.{Mark}
use Rattle.sock_model.specs.declared.marks.Mark.TheVariants.{Recycling, Hold, Tried, Known, Born, Saw, Failer, Stored, Told, Freer, Linked, Met}
use Rattle.sock_model.specs.declared.marks.SlotMark.{SlotMark}
use Rattle.sock_model.specs.declared.view.View.{View}
use Rattle.sock_model.specs.declared.view.Hand.{Hand}
use Rattle.sock_model.specs.MarkWeights.{only, is_ref, is_probe, is_zero, is_any_coding, is_claimed, is_recycled}
use Rattle.sock_model.specs.Marks.{about, at}
use Rattle.sock_model.specs.SlotRows.{marks_of}
use Rattle.seat_programs.specs.Programs.{LAST_VERSION}
use Rattle.seat_programs.specs.ClientProgram.{HeldLife}
use Rattle.program_walks.specs.program_steps.specs.ProgramGoesOn.{HasNothing}
use Rattle.program_walks.specs.program_steps.specs.WhatSeatHas.{IsQuiet, OfTokens, holds, Has}
use Rattle.program_walks.specs.program_steps.proofs.AllowedRounds.{about_top}
use Rattle.slot_steps.proofs.SlotWeightSums.{total_mono, about-other}
use Rattle.slot_steps.proofs.RuleNumbers.{only-else}
use Rattle.slot_steps.proofs.ReferenceStepsKeepSlot.{probe_ref}
use Rattle.sock_model.specs.ChainStepConditions.{KeepsRights}
use Rattle.sock_words.specs.Totals.{total}

-- ## Weights of tokens

-- what a weight counts of notes
abbrev Notes : Type 0
Notes = ℕ × (ℕ → ℕ) × (ℕ → ℕ) × (ℕ → ℕ) × (ℕ → ℕ) × (ℕ → ℕ → ℕ) × (ℕ → ℕ → ℕ) × (ℕ → ℕ) × (ℕ → ℕ → ℕ) × (ℕ → ℕ → ℕ)

abbrev notes : (Mark → ℕ) → Notes
notes f = (f Tried, λ h. f (Known h), λ h. f (Born h), λ w. f (Saw w), λ h. f (Failer h), λ h c. f (Stored h c), λ h c. f (Told h c), λ h. f (Freer h), λ h k. f (Linked h k), λ h k. f (Met h k))

-- where it computes to none, the weight is one of tokens
pub tokens : (f : Mark → ℕ) → notes f ≡ notes (λ m. 0) → OfTokens f
tokens f e = record {
  tried = ap (λ (n : Notes). n.0) e;
  known = λ h. ap (λ (n : Notes). n.1 h) e;
  born = λ h. ap (λ (n : Notes). n.2 h) e;
  saw = λ w. ap (λ (n : Notes). n.3 w) e;
  failer = λ h. ap (λ (n : Notes). n.4 h) e;
  stored = λ h c. ap (λ (n : Notes). n.5 h c) e;
  told = λ h c. ap (λ (n : Notes). n.6 h c) e;
  freer = λ h. ap (λ (n : Notes). n.7 h) e;
  linked = λ h k. ap (λ (n : Notes). n.8 h k) e;
  met = λ h k. ap (λ (n : Notes). n.9 h k) e;
}

-- ## What is held

-- a mark more of slot i, as slot j sees it
pub about_cons : (f : Mark → ℕ) (i j : ℕ) (m : Mark) (es : List SlotMark) → ((j ≡ i) → ⊥) → total f (about j (at i m ∷ es)) ≡ total f (about j es)
about_cons f i j m es n = ap (total f) (about-other j i m es n)

pub about_le : (f : Mark → ℕ) (i j : ℕ) (m : Mark) (es : List SlotMark) → total f (about j (at i m ∷ es)) ≤ f m + total f (about j es)
about_le f i j m es = dite (ℕ_discrete j i) (λ e. subst (λ x. total f (about x (at i m ∷ es)) ≤ f m + total f (about x es)) (sym e) (omega (arith, about_top f i m es)))
    (λ n. omega (arith, about_cons f i j m es n))

-- only holds are there
pub holds_none : (f : Mark → ℕ) → ((h : ℕ) → f (Hold h) ≡ 0) → (j : ℕ) (hs : List HeldLife) → total f (about j (holds hs)) ≡ 0
holds_none f z j [] = refl
holds_none f z j (h ∷ hs) = omega (arith, about_le f (socket_id_slot h.id) j (Hold (socket_id_version h.id)) (holds hs), z (socket_id_version h.id), holds_none f z j hs)

-- and one for each held life
pub holds_few : (j : ℕ) (hs : List HeldLife) → total is_ref (about j (holds hs)) ≤ length hs
holds_few j [] = omega arith
holds_few j (h ∷ hs) = omega (arith, about_le is_ref (socket_id_slot h.id) j (Hold (socket_id_version h.id)) (holds hs), holds_few j hs)

-- ## How it changes

module _ {lists : List (List Entry)} {s : ℕ} {t : List Mark} {held : List HeldLife} {passes links : List ℕ} {v : View} (a : Has lists s t held passes links v) where
  pub still : (w : View) → w.claims ≡ v.claims → w.loose ≡ v.loose → w.rights ≡ v.rights → w.lists ≡ v.lists → IsQuiet w × (w.lists ≡ lists)
  still w c l r e = (record { claims = c ∙ a.quiet.claims; loose = l ∙ a.quiet.loose; rights = r ∙ a.quiet.rights }, e ∙ a.lists_are)

  pub becomes : (w : View) (u : List Mark) (less hand : List ℕ) → ((j : ℕ) → j ≢ s → about j w.marks ≡ about j v.marks)
      → ((f : Mark → ℕ) → OfTokens f → total f (about s w.marks) + total f t ≡ total f (about s v.marks) + total f u)
      → ((k : ℕ) → total (only k) less ≤ total (only k) w.passes) → map (λ (h : Hand). h.link) w.hands ≡ hand → IsQuiet w × (w.lists ≡ lists) → Has lists s u held less hand w
  becomes w u less hand others heres pass in_hand same = record {
    rest = a.rest;
    idle = a.idle;
    here = λ f o. omega (arith, heres f o, a.here f o);
    other = λ f o j n. ap (total f) (others j n) ∙ a.other f o j n;
    passes_are = pass;
    hands_are = in_hand;
    lists_are = same.1;
    quiet = same.0;
  }

  -- where only the marks change
  pub marked : (es : List SlotMark) (u : List Mark) → ((j : ℕ) → j ≢ s → about j es ≡ about j v.marks)
      → ((f : Mark → ℕ) → OfTokens f → total f (about s es) + total f t ≡ total f (about s v.marks) + total f u) → Has lists s u held passes links (record v { marks = es })
  marked es u others heres = becomes (record v { marks = es }) u passes links others heres a.passes_are a.hands_are (still (record v { marks = es }) refl refl refl refl)

  -- where marks stay
  pub kept : (w : View) → w.marks ≡ v.marks → ((k : ℕ) → total (only k) passes ≤ total (only k) w.passes) → w.hands ≡ v.hands → IsQuiet w × (w.lists ≡ lists) → Has lists s t held passes links w
  kept w same pass hand stays = becomes w t passes links (λ j n. ap (about j) same) (λ f o. ap (λ (es : List SlotMark). total f (about s es) + total f t) same) pass (ap (map (λ (h : Hand). h.link)) hand ∙ a.hands_are) stays

  -- no reference to the word alone, and no code, beside the tokens at the slot
  pub probes : marks_of is_probe s v ≡ total is_probe t
  probes = omega (arith, a.here is_probe (tokens is_probe refl), total_mono is_probe is_ref probe_ref (about s a.rest), a.idle.refs s, holds_none is_probe (λ h. refl) s held)

  pub codings : marks_of is_any_coding s v ≡ total is_any_coding t
  codings = omega (arith, a.here is_any_coding (tokens is_any_coding refl), a.idle.codes s, holds_none is_any_coding (λ h. refl) s held)

  pub refs_few : marks_of is_ref s v ≤ total is_ref t + length held
  refs_few = omega (arith, a.here is_ref (tokens is_ref refl), a.idle.refs s, holds_few s held)

  -- a seat that writes no link has no right whose life it could lose
  pub keeps_rights : (i : ℕ) → KeepsRights i v
  keeps_rights i x r h e = absurd (some-ne-none r (sym (ap (λ l. get_elem? l x) (sym a.quiet.rights) ∙ e)))

-- ## Between the slots

-- where nothing is there besides, any slot may be looked at
pub at_slot : {lists : List (List Entry)} {s : ℕ} {held : List HeldLife} {passes links : List ℕ} {v : View} → Has lists s [] held passes links v → (i : ℕ) → Has lists i [] held passes links v
at_slot {lists} {s} {held} {passes} {links} {v} a i = record {
  rest = a.rest;
  idle = a.idle;
  here = λ f o. omega (arith, all f o i);
  other = λ f o j n. all f o j;
  passes_are = a.passes_are;
  hands_are = a.hands_are;
  lists_are = a.lists_are;
  quiet = a.quiet;
}
  where
    all : (f : Mark → ℕ) → OfTokens f → (j : ℕ) → marks_of f j v ≡ total f (about j a.rest) + total f (about j (holds held))
    all f o j = dite (ℕ_discrete j s) (λ e. subst (λ x. marks_of f x v ≡ total f (about x a.rest) + total f (about x (holds held))) (sym e) (omega (arith, a.here f o))) (λ n. a.other f o j n)

-- tokens of the slot go over to what is held, or come from there
turned : {lists : List (List Entry)} {s : ℕ} {t t' : List Mark} {held held' : List HeldLife} {passes links : List ℕ} {v : View} → Has lists s t held passes links v
    → ((f : Mark → ℕ) → total f t + total f (about s (holds held)) ≡ total f t' + total f (about s (holds held'))) → ((f : Mark → ℕ) (j : ℕ) → j ≢ s → total f (about j (holds held)) ≡ total f (about j (holds held')))
    → Has lists s t' held' passes links v
turned a here other = record {
  rest = a.rest;
  idle = a.idle;
  here = λ f o. omega (arith, a.here f o, here f);
  other = λ f o j n. omega (arith, a.other f o j n, other f j n);
  passes_are = a.passes_are;
  hands_are = a.hands_are;
  lists_are = a.lists_are;
  quiet = a.quiet;
}

-- a reference that stays is held from then on, and one that is held may go
pub holding : {lists : List (List Entry)} {s : ℕ} {held : List HeldLife} {passes links : List ℕ} {v : View} (h : ℕ) (more : List HeldLife) → Has lists s (Hold h ∷ []) held passes links v
    → ((f : Mark → ℕ) → total f (about s (holds more)) ≡ f (Hold h) + total f (about s (holds held))) → ((f : Mark → ℕ) (j : ℕ) → j ≢ s → total f (about j (holds more)) ≡ total f (about j (holds held)))
    → Has lists s [] more passes links v
holding h more a grows stays = turned a (λ f. omega (arith, grows f)) (λ f j n. omega (arith, stays f j n))

pub letting : {lists : List (List Entry)} {s : ℕ} {held : List HeldLife} {passes links : List ℕ} {v : View} (h : ℕ) (fewer : List HeldLife) → Has lists s [] held passes links v
    → ((f : Mark → ℕ) → total f (about s (holds held)) ≡ f (Hold h) + total f (about s (holds fewer))) → ((f : Mark → ℕ) (j : ℕ) → j ≢ s → total f (about j (holds held)) ≡ total f (about j (holds fewer)))
    → Has lists s (Hold h ∷ []) fewer passes links v
letting h fewer a grows stays = turned a (λ f. omega (arith, grows f)) (λ f j n. omega (arith, stays f j n))

-- a slot whose versions are used up stays recycled
pub retiring : {lists : List (List Entry)} {s : ℕ} {held : List HeldLife} {passes links : List ℕ} {v : View} (w : ℕ) → LAST_VERSION < w → Has lists s (Recycling w ∷ []) held passes links v → Has lists s [] held passes links v
retiring {lists} {s} {held} {passes} {links} {v} w late a = record {
  rest = at s (Recycling w) ∷ a.rest;
  idle = record {
    refs = λ i. omega (arith, about_le is_ref s i (Recycling w) a.rest, a.idle.refs i);
    zeros = λ i x. omega (arith, about_le (is_zero x) s i (Recycling w) a.rest, a.idle.zeros i x);
    codes = λ i. omega (arith, about_le is_any_coding s i (Recycling w) a.rest, a.idle.codes i);
    claims = λ i. omega (arith, about_le is_claimed s i (Recycling w) a.rest, a.idle.claims i);
    retired = λ i x some_. dite (ℕ_discrete w x) (λ e. subst (λ (y : ℕ). LAST_VERSION < y) e late)
        (λ n. a.idle.retired i x (omega (arith, some_, about_le (is_recycled x) s i (Recycling w) a.rest, only-else x w n)));
  };
  here = λ f o. omega (arith, a.here f o, about_top f s (Recycling w) a.rest);
  other = λ f o j n. omega (arith, a.other f o j n, about_cons f s j (Recycling w) a.rest n);
  passes_are = a.passes_are;
  hands_are = a.hands_are;
  lists_are = a.lists_are;
  quiet = a.quiet;
}

-- ## At rest

pub no_links : (hs : List Hand) → map (λ (h : Hand). h.link) hs ≡ [] → hs ≡ []
no_links [] e = refl
no_links (h ∷ hs) e = absurd (cons-ne-nil _ _ e)

pub has_nothing : {lists : List (List Entry)} {s : ℕ} {passes : List ℕ} {v : View} → Has lists s [] [] passes [] v → HasNothing v
has_nothing {lists} {s} {passes} {v} a = record {
  refs = λ i. let b = at_slot a i in omega (arith, b.here is_ref (tokens is_ref refl), b.idle.refs i);
  zeros = λ i w. let b = at_slot a i in omega (arith, b.here (is_zero w) (tokens (is_zero w) refl), b.idle.zeros i w);
  codes = λ i. let b = at_slot a i in omega (arith, b.here is_any_coding (tokens is_any_coding refl), b.idle.codes i);
  claims = λ i. let b = at_slot a i in omega (arith, b.here is_claimed (tokens is_claimed refl), b.idle.claims i);
  retired = λ i w some_. let b = at_slot a i in b.idle.retired i w (omega (arith, some_, b.here (is_recycled w) (tokens (is_recycled w) refl)));
  hands = no_links v.hands a.hands_are;
  quiet = a.quiet;
}

pub from_nothing : {v : View} (s : ℕ) → HasNothing v → Has v.lists s [] [] [] [] v
from_nothing {v} s n = record {
  rest = v.marks;
  idle = record { refs = n.refs; zeros = n.zeros; codes = n.codes; claims = n.claims; retired = n.retired };
  here = λ f o. omega arith;
  other = λ f o j ne. omega arith;
  passes_are = λ k. omega arith;
  hands_are = ap (map (λ (h : Hand). h.link)) n.hands;
  lists_are = refl;
  quiet = n.quiet;
}
