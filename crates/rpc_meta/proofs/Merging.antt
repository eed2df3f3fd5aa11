-- What is gathered of the parts of a meta one after another is what its definition says of them all.
use Rattle.std.proofs.Common.{◌≡◌, ℕ, ℤ, List, [], ◌∷◌, ◌++◌, fold, flat_map, Option, Some, None, unwrap_or, option_map, Result, Ok, Err, refl, ap, sym, ◌∙◌, append_assoc}
use Rattle.std.proofs.lemmas.List.{append-nil}
use Rattle.std.proofs.lemmas.List.Concat.{flat_map-cons}
use Rattle.std.proofs.lemmas.Grind.{flat_map-append}
use Rattle.std.specs.List.{last_or}
use Rattle.pb_wire.specs.brpc_model.specs.Wire.{WireFault, Wire, ◌>>=◌, Value, Field}
use Rattle.pb_wire.specs.brpc_model.specs.Meta as meta
use Rattle.pb_wire.specs.brpc_model.specs.Meta.{MetaFault, Part, Request, Response, Plain, parts, requests_in, responses_in, plain_in, varint_of, span_of, last_of, int32, int32_of, merged, request_of, response_of, meta_of, meta_of_parts, read_meta}
use Rattle.rpc_meta.specs.Gathered.{Names, Outcome, Gathered, found, latest, no_names, no_outcome, nothing, name_added, outcome_added, part_added}
use Rattle.rpc_meta.specs.MetaGatheringSteps.{gathered_after}
use Rattle.rpc_meta.specs.Answer.{request_from, response_from, meta_with, meta_from}

-- ## The last one of a list and of what follows it

last_or-append : {A : Type 0} (o : Option A) (xs ys : List A) → last_or o (xs ++ ys) ≡ last_or (last_or o xs) ys
last_or-append o [] ys = refl
last_or-append o (x ∷ xs) ys = last_or-append (Some x) xs ys

latest-append : {A : Type 0} (a : A) (xs ys : List A) → latest a (xs ++ ys) ≡ latest (latest a xs) ys
latest-append a [] ys = refl
latest-append a (x ∷ xs) ys = latest-append x xs ys

latest_some : {A : Type 0} (a d : A) (xs : List A) → unwrap_or (last_or (Some a) xs) d ≡ latest a xs
latest_some a d [] = refl
latest_some a d (x ∷ xs) = latest_some x d xs

latest_is : {A : Type 0} (a : A) (xs : List A) → unwrap_or (last_or None xs) a ≡ latest a xs
latest_is a [] = refl
latest_is a (x ∷ xs) = latest_some x a xs

-- ## The fields of a request, and those of a response

abbrev names : List Field → Names
names fs = record { service = last_of span_of 1 fs; method = last_of span_of 2 fs; log_id = last_of varint_of 3 fs }

last_of-append : {A : Type 0} (wanted : Value → List A) (n : ℕ) (xs ys : List Field) → last_of wanted n (xs ++ ys) ≡ last_or (last_of wanted n xs) (flat_map (found wanted n) ys)
last_of-append wanted n xs ys =
    ap (last_or None) (flat_map-append (found wanted n) xs ys) ∙ last_or-append None (flat_map (found wanted n) xs) (flat_map (found wanted n) ys)

last_or_more : {A : Type 0} (o : Option A) (wanted : Value → List A) (n : ℕ) (f : Field) (fs : List Field) →
    last_or (last_or o (found wanted n f)) (flat_map (found wanted n) fs) ≡ last_or o (flat_map (found wanted n) (f ∷ fs))
last_or_more o wanted n f fs =
    sym (last_or-append o (found wanted n f) (flat_map (found wanted n) fs)) ∙ ap (last_or o) (sym (flat_map-cons (found wanted n) f fs))

latest_more : {A : Type 0} (a : A) (wanted : Value → List A) (n : ℕ) (f : Field) (fs : List Field) →
    latest (latest a (found wanted n f)) (flat_map (found wanted n) fs) ≡ latest a (flat_map (found wanted n) (f ∷ fs))
latest_more a wanted n f fs =
    sym (latest-append a (found wanted n f) (flat_map (found wanted n) fs)) ∙ ap (latest a) (sym (flat_map-cons (found wanted n) f fs))

name_fold : (n : Names) (fs : List Field) → fold name_added n fs ≡
    record { service = last_or n.service (flat_map (found span_of 1) fs); method = last_or n.method (flat_map (found span_of 2) fs); log_id = last_or n.log_id (flat_map (found varint_of 3) fs) }
name_fold n [] = refl
name_fold n (f ∷ fs) =
    name_fold (name_added n f) fs
    ∙ made (last_or_more n.service span_of 1 f fs) (last_or_more n.method span_of 2 f fs) (last_or_more n.log_id varint_of 3 f fs)
  where
    made : {a a2 b b2 : Option (List ℕ)} {c c2 : Option ℕ} → a ≡ a2 → b ≡ b2 → c ≡ c2 → ◌≡◌ {A = Names} (record { service = a; method = b; log_id = c }) (record { service = a2; method = b2; log_id = c2 })
    made p q r = cc

outcome_fold : (o : Outcome) (fs : List Field) → fold outcome_added o fs ≡
    record { code = latest o.code (flat_map (found varint_of 1) fs); text = latest o.text (flat_map (found span_of 2) fs) }
outcome_fold o [] = refl
outcome_fold o (f ∷ fs) =
    outcome_fold (outcome_added o f) fs ∙ made (latest_more o.code varint_of 1 f fs) (latest_more o.text span_of 2 f fs)
  where
    made : {a a2 : ℕ} {b b2 : List ℕ} → a ≡ a2 → b ≡ b2 → ◌≡◌ {A = Outcome} (record { code = a; text = b }) (record { code = a2; text = b2 })
    made p q = cc

abbrev outcome : List Field → Outcome
outcome fs = record { code = unwrap_or (last_of varint_of 1 fs) 0; text = unwrap_or (last_of span_of 2 fs) [] }

names_more : (xs ys : List Field) → fold name_added (names xs) ys ≡ names (xs ++ ys)
names_more xs ys = name_fold (names xs) ys ∙ made (last_of-append span_of 1 xs ys) (last_of-append span_of 2 xs ys) (last_of-append varint_of 3 xs ys)
  where
    made : {a a2 b b2 : Option (List ℕ)} {c c2 : Option ℕ} → a2 ≡ a → b2 ≡ b → c2 ≡ c → ◌≡◌ {A = Names} (record { service = a; method = b; log_id = c }) (record { service = a2; method = b2; log_id = c2 })
    made p q r = cc

latest_of-append : {A : Type 0} (d : A) (wanted : Value → List A) (n : ℕ) (xs ys : List Field) →
    latest (unwrap_or (last_of wanted n xs) d) (flat_map (found wanted n) ys) ≡ unwrap_or (last_of wanted n (xs ++ ys)) d
latest_of-append d wanted n xs ys =
    ap (λ a. latest a (flat_map (found wanted n) ys)) (latest_is d (flat_map (found wanted n) xs))
    ∙ sym (latest-append d (flat_map (found wanted n) xs) (flat_map (found wanted n) ys))
    ∙ ap (latest d) (sym (flat_map-append (found wanted n) xs ys))
    ∙ sym (latest_is d (flat_map (found wanted n) (xs ++ ys)))

outcome_more : (xs ys : List Field) → fold outcome_added (outcome xs) ys ≡ outcome (xs ++ ys)
outcome_more xs ys = outcome_fold (outcome xs) ys ∙ made (latest_of-append 0 varint_of 1 xs ys) (latest_of-append [] span_of 2 xs ys)
  where
    made : {a a2 : ℕ} {b b2 : List ℕ} → a ≡ a2 → b ≡ b2 → ◌≡◌ {A = Outcome} (record { code = a; text = b }) (record { code = a2; text = b2 })
    made p q = cc

-- ## Occurrences that are merged

-- messages behind what earlier ones had
abbrev behind : {S : Type 0} → (S → Field → S) → S → Option S → List (List Field) → Option S
behind step empty before [] = before
behind step empty before (fs ∷ more) = behind step empty (Some (fold step (unwrap_or before empty) fs)) more

behind_some : {S : Type 0} (step : S → Field → S) (empty : S) (view : List Field → S) → ((xs ys : List Field) → fold step (view xs) ys ≡ view (xs ++ ys)) →
    (xs : List Field) (more : List (List Field)) → behind step empty (Some (view xs)) more ≡ Some (view (xs ++ flat_map (λ fs. fs) more))
behind_some step empty view h xs [] = ap (λ l. Some (view l)) (sym (append-nil xs))
behind_some step empty view h xs (fs ∷ more) =
    ap (λ s. behind step empty (Some s) more) (h xs fs)
    ∙ behind_some step empty view h (xs ++ fs) more
    ∙ ap (λ l. Some (view l)) (append_assoc xs fs (flat_map (λ fs. fs) more) ∙ ap (λ l. xs ++ l) (sym (flat_map-cons (λ fs. fs) fs more)))

behind_merged : {S : Type 0} (step : S → Field → S) (empty : S) (view : List Field → S) → view [] ≡ empty → ((xs ys : List Field) → fold step (view xs) ys ≡ view (xs ++ ys)) →
    (ms : List (List Field)) → behind step empty None ms ≡ option_map view (merged ms)
behind_merged step empty view e h [] = refl
behind_merged step empty view e h (fs ∷ more) =
    ap (λ s. behind step empty (Some (fold step s fs)) more) (sym e)
    ∙ ap (λ s. behind step empty (Some s) more) (h [] fs)
    ∙ behind_some step empty view h fs more
    ∙ ap (λ l. Some (view l)) (sym (flat_map-cons (λ fs. fs) fs more))

-- ## The parts of a meta

-- the parts, by their requests, their responses and their plain fields
abbrev sorted : Gathered → List (List Field) → List (List Field) → List Field → Gathered
sorted g requests responses plain = record {
  request = behind name_added no_names g.request requests;
  response = behind outcome_added no_outcome g.response responses;
  compress_type = latest g.compress_type (flat_map (found varint_of 3) plain);
  correlation_id = latest g.correlation_id (flat_map (found varint_of 4) plain);
  attachment_size = latest g.attachment_size (flat_map (found varint_of 5) plain);
}

sorted_same : (g : Gathered) (a a2 b b2 : List (List Field)) (c c2 : List Field) → a2 ≡ a → b2 ≡ b → c2 ≡ c → sorted g a b c ≡ sorted g a2 b2 c2
sorted_same g a a2 b b2 c c2 p q r = ap (λ a. sorted g a b c) (sym p) ∙ ap (λ b. sorted g a2 b c) (sym q) ∙ ap (λ c. sorted g a2 b2 c) (sym r)

plain_front : (g : Gathered) (requests responses : List (List Field)) (f : Field) (plain : List Field) → sorted (part_added g (Plain f)) requests responses plain ≡ sorted g requests responses (f ∷ plain)
plain_front g requests responses f plain =
    made (latest_more g.compress_type varint_of 3 f plain) (latest_more g.correlation_id varint_of 4 f plain) (latest_more g.attachment_size varint_of 5 f plain)
  where
    made : {a a2 b b2 c c2 : ℕ} → a ≡ a2 → b ≡ b2 → c ≡ c2 → ◌≡◌ {A = Gathered}
        (record { request = behind name_added no_names g.request requests; response = behind outcome_added no_outcome g.response responses; compress_type = a; correlation_id = b; attachment_size = c })
        (record { request = behind name_added no_names g.request requests; response = behind outcome_added no_outcome g.response responses; compress_type = a2; correlation_id = b2; attachment_size = c2 })
    made p q r = cc

fold_parts : (g : Gathered) (ps : List Part) → fold part_added g ps ≡ sorted g (flat_map requests_in ps) (flat_map responses_in ps) (flat_map plain_in ps)
fold_parts g [] = refl
fold_parts g (Request inside ∷ ps) =
    fold_parts (part_added g (Request inside)) ps
    ∙ sorted_same g (inside ∷ flat_map requests_in ps) _ (flat_map responses_in ps) _ (flat_map plain_in ps) _
    (flat_map-cons requests_in (Request inside) ps) (flat_map-cons responses_in (Request inside) ps) (flat_map-cons plain_in (Request inside) ps)
fold_parts g (Response inside ∷ ps) =
    fold_parts (part_added g (Response inside)) ps
    ∙ sorted_same g (flat_map requests_in ps) _ (inside ∷ flat_map responses_in ps) _ (flat_map plain_in ps) _
    (flat_map-cons requests_in (Response inside) ps) (flat_map-cons responses_in (Response inside) ps) (flat_map-cons plain_in (Response inside) ps)
fold_parts g (Plain f ∷ ps) =
    fold_parts (part_added g (Plain f)) ps
    ∙ plain_front g (flat_map requests_in ps) (flat_map responses_in ps) f (flat_map plain_in ps)
    ∙ sorted_same g (flat_map requests_in ps) _ (flat_map responses_in ps) _ (f ∷ flat_map plain_in ps) _
    (flat_map-cons requests_in (Plain f) ps) (flat_map-cons responses_in (Plain f) ps) (flat_map-cons plain_in (Plain f) ps)

-- ## What a meta says

request_same : (o : Option (List Field)) → request_from (option_map names o) ≡ request_of o
request_same None = refl
request_same (Some fs) = refl

response_same : (o : Option (List Field)) → option_map response_from (option_map outcome o) ≡ option_map response_of o
response_same None = refl
response_same (Some fs) = refl

meta_same : (request : Result (Option meta.RequestMeta) MetaFault) (response : Option meta.ResponseMeta) (fs : List Field) →
    meta_with request response (int32_of 3 fs) (unwrap_or (last_of varint_of 4 fs) 0) (int32_of 5 fs) ≡ meta_of request response fs
meta_same (Err fault) response fs = refl
meta_same (Ok None) None fs = refl
meta_same (Ok None) (Some r) fs = refl
meta_same (Ok (Some r)) response fs = refl

meta_of_sorted : (requests responses : List (List Field)) (plain : List Field) →
    meta_from (sorted nothing requests responses plain) ≡ meta_of (request_of (merged requests)) (option_map response_of (merged responses)) plain
meta_of_sorted requests responses plain =
    ap (λ (o : Option Names). meta_with (request_from o) (option_map response_from (behind outcome_added no_outcome None responses)) c i s) (behind_merged name_added no_names names refl names_more requests)
    ∙ ap (λ (o : Option Outcome). meta_with (request_from (option_map names (merged requests))) (option_map response_from o) c i s) (behind_merged outcome_added no_outcome outcome refl outcome_more responses)
    ∙ ap (λ r. meta_with r (option_map response_from (option_map outcome (merged responses))) c i s) (request_same (merged requests))
    ∙ ap (λ r. meta_with (request_of (merged requests)) r c i s) (response_same (merged responses))
    ∙ ap (λ n. meta_with (request_of (merged requests)) (option_map response_of (merged responses)) (int32 n) i s) (sym (latest_is 0 (flat_map (found varint_of 3) plain)))
    ∙ ap (λ n. meta_with (request_of (merged requests)) (option_map response_of (merged responses)) (int32_of 3 plain) n s) (sym (latest_is 0 (flat_map (found varint_of 4) plain)))
    ∙ ap (λ n. meta_with (request_of (merged requests)) (option_map response_of (merged responses)) (int32_of 3 plain) (unwrap_or (last_of varint_of 4 plain) 0) (int32 n)) (sym (latest_is 0 (flat_map (found varint_of 5) plain)))
    ∙ meta_same (request_of (merged requests)) (option_map response_of (merged responses)) plain
  where
    c : ℤ
    c = int32 (latest 0 (flat_map (found varint_of 3) plain))

    i : ℕ
    i = latest 0 (flat_map (found varint_of 4) plain)

    s : ℤ
    s = int32 (latest 0 (flat_map (found varint_of 5) plain))

by_parts : (r : Wire (List Part)) (g : Gathered) → Ok g ≡ r >>= (λ ps. Ok (fold part_added nothing ps)) → meta_from g ≡ meta_of_parts r
by_parts (Ok ps) g e =
    let q : g ≡ fold part_added nothing ps = same g (fold part_added nothing ps) e in
    ap meta_from (q ∙ fold_parts nothing ps) ∙ meta_of_sorted (flat_map requests_in ps) (flat_map responses_in ps) (flat_map plain_in ps)
  where
    same : (a b : Gathered) → ◌≡◌ {A = Wire Gathered} (Ok a) (Ok b) → a ≡ b
    same a b e = cc
by_parts (Err x) g e = absurd (cc)

by_fault : (r : Wire (List Part)) (x : WireFault) → Err x ≡ r >>= (λ ps. Ok (fold part_added nothing ps)) → Err (meta.Wrong x) ≡ meta_of_parts r
by_fault (Ok ps) x e = absurd (cc)
by_fault (Err y) x e = let q : x ≡ y = cc in ap (λ x. Err (meta.Wrong x)) q

-- the meta of what was gathered is the one that was read
pub meta_is_read : (bytes : List ℕ) (g : Gathered) → Ok g ≡ gathered_after nothing bytes → meta_from g ≡ read_meta bytes
meta_is_read bytes g e = by_parts (parts bytes) g e

-- a fault of the wire is the meta's
pub fault_is_read : (bytes : List ℕ) (x : WireFault) → Err x ≡ gathered_after nothing bytes → Err (meta.Wrong x) ≡ read_meta bytes
fault_is_read bytes x e = by_fault (parts bytes) x e
