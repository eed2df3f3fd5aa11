use Rattle.std.proofs.Common.{◌≡◌, refl, sym, ◌∙◌, Some, None, slice_set, ap, arith}
use Rattle.std.proofs.lemmas.List.{length-map, map-set}
use mathlib.Core.Option.{some}
use Rattle.machine_model.specs.LetterHomes.{lying_in, letters_in}
use Rattle.machine_steps.proofs.AskingLinks.{there_in, inside_list}
use Rattle.machine_tables.proofs.homes.take_message.Goals as goal

pub bounds-letters-from : goal.bounds-letters-from
bounds-letters-from c = let inside = inside_list (letters_in c.args.letters.now) c.args.request _ c.requires.there.1 in let many = length-map c.args.letters.now lying_in in omega (arith, c.from.ensures, inside, many)

pub returns-in-Some-clause-taken : goal.returns-in-Some-clause-taken
returns-in-Some-clause-taken c =
    let home : Some c.in-Some.home.value ≡ Some c.requires.there.0 = sym (ap lying_in c.in-Some.is) ∙ ap lying_in c.take.ensures.value ∙ there_in lying_in c.args.letters.now c.from.result c.args.request _ (Some c.requires.there.0) c.from.ensures c.requires.there.1 in
    let h : Some c.into_inner-letter.result ≡ Some c.requires.there.0 = ap Some c.into_inner-letter.ensures ∙ home in
    (c.into_inner-letter.result, c.requires.there.1 ∙ ap some (sym h), refl, ap Some c.begin.ensures)

pub returns-in-None-clause-taken : goal.returns-in-None-clause-taken
returns-in-None-clause-taken c =
    let h : None ≡ Some c.requires.there.0 = sym (ap lying_in c.in-None.is) ∙ ap lying_in c.take.ensures.value ∙ there_in lying_in c.args.letters.now c.from.result c.args.request _ (Some c.requires.there.0) c.from.ensures c.requires.there.1 in
    absurd (none_some h)
  where
    none_some : {A : Type 0} {a : A} → None ≡ Some a → ⊥
    none_some e = cc

pub returns-in-Some-clause-letters : goal.returns-in-Some-clause-letters
returns-in-Some-clause-letters c = map-set lying_in c.args.letters.now c.from.result c.take.new.self ∙ (λ i. slice_set (letters_in c.args.letters.now) (c.from.ensures i) (lying_in (c.take.ensures.after i)))

pub returns-in-None-clause-letters : goal.returns-in-None-clause-letters
returns-in-None-clause-letters c = map-set lying_in c.args.letters.now c.from.result c.take.new.self ∙ (λ i. slice_set (letters_in c.args.letters.now) (c.from.ensures i) (lying_in (c.take.ensures.after i)))
