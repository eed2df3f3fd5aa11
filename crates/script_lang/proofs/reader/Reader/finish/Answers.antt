use Rattle.std.proofs.Common.{rules, ◌≡◌, ℕ, Bool, List, Option, option_map, None, Ok, map, refl, ap, sym, ◌∙◌}
use Rattle.std.specs.List.{find}
use Rattle.brpc_model.specs.LinePlaceFaults as model
use Rattle.script_items.specs.LineMeaning.{item}
use Rattle.script_lang.specs.declared.uses.CallUse.{CallUse}
use Rattle.script_lang.specs.CountedLines.{counts_of}
use Rattle.script_lang.specs.OperationNumbers.{numbers_of}
use Rattle.script_lang.proofs.WholeScriptLines.{whole_is, fault_in, is_absent, is_hanging}
use Rattle.script_lang.proofs.reader.Reader.finish.Goals as goal

-- the line of the first use of a kind, of the uses that are kept
first_of : (found : Option ℕ) (p : CallUse → Bool) (listed kept : List CallUse) → found ≡ option_map (λ u. u.line) (find p listed) → listed ≡ kept → found ≡ option_map (λ u. u.line) (find p kept)
first_of found p listed kept is same = is ∙ ap (λ us. option_map (λ u. u.line) (find p us)) same

pub returns-in-Some : goal.returns-in-Some
returns-in-Some c = λ said knows.
    let self = c.args.self in
    let lost = first_of c.first_lost.result (is_absent self.numbering) _ self.uses.items c.first_lost.ensures c.deref.ensures.value in
    whole_is self said knows c.first_lost.result _ lost refl ∙ ap (λ l. fault_in l 10 (fault_in (option_map (λ u. u.line) (find (is_hanging self.counts.unserved) self.uses.items)) 11 (Ok (map item self.lines.items)))) c.in-Some.is

pub returns-in-Some-first_hanging : goal.returns-in-Some-first_hanging
returns-in-Some-first_hanging c = λ said knows.
    let self = c.args.self in
    let lost = first_of c.first_lost.result (is_absent self.numbering) _ self.uses.items c.first_lost.ensures c.deref.ensures.value in
    let hanging = first_of c.first_hanging.result (is_hanging self.counts.unserved) _ self.uses.items c.first_hanging.ensures c.deref-2.ensures.value in
    let none : c.first_lost.result ≡ None = search rules in
    whole_is self said knows c.first_lost.result c.first_hanging.result lost hanging
    ∙ ap (λ l. fault_in l 10 (fault_in c.first_hanging.result 11 (Ok (map item self.lines.items)))) none
    ∙ ap (λ h. fault_in h 11 (Ok (map item self.lines.items))) c.in-Some-first_hanging.is

pub returns : goal.returns
returns c = λ said knows.
    let self = c.args.self in
    let lost = first_of c.first_lost.result (is_absent self.numbering) _ self.uses.items c.first_lost.ensures c.deref.ensures.value in
    let hanging = first_of c.first_hanging.result (is_hanging self.counts.unserved) _ self.uses.items c.first_hanging.ensures c.deref-2.ensures.value in
    let none : c.first_lost.result ≡ None = search rules in
    let none-2 : c.first_hanging.result ≡ None = search rules in
    whole_is self said knows c.first_lost.result c.first_hanging.result lost hanging
    ∙ ap (λ l. fault_in l 10 (fault_in c.first_hanging.result 11 (Ok (map item self.lines.items)))) none
    ∙ ap (λ h. fault_in h 11 (Ok (map item self.lines.items))) none-2
    ∙ ap (λ is. Ok is) (sym (c.new.ensures ∙ ap (map item) c.shrink_to_fit.ensures.items))

pub new-requires-clause-names : goal.new-requires-clause-names
new-requires-clause-names c = let knows = c.requires.1 in knows.names ∙ ap model.names (sym (ap (map item) c.shrink_to_fit.ensures.items ∙ knows.lines))

pub new-requires-clause-counts : goal.new-requires-clause-counts
new-requires-clause-counts c = let knows = c.requires.1 in knows.counts ∙ ap counts_of (sym (ap (map item) c.shrink_to_fit.ensures.items ∙ knows.lines))

pub new-requires-clause-numbering : goal.new-requires-clause-numbering
new-requires-clause-numbering c = let knows = c.requires.1 in knows.numbering ∙ ap numbers_of (sym (ap (map item) c.shrink_to_fit.ensures.items ∙ knows.lines))
