use Rattle.std.proofs.Common.{◌≡◌, ℕ, ◌+◌, [], List, ◌++◌, length, get_or, take, drop, replicate, fold, refl, sym, ap, ◌∙◌, arith, rules}
use Rattle.std.proofs.lemmas.List.{at_drop_more, at_drop_all}
use Rattle.ledger.specs.declared.terms.Kind.{Kind}
use Rattle.ledger.specs.declared.terms.Kind.TheVariants.{Stock}
use Rattle.amounts.specs.FirstFew.{keep, kept}
use Rattle.margin_rules.specs.declared.terms.Holding.{Holding}
use Rattle.margin_rules.specs.Positions.{all_kinds, all_stocks, book}
use Rattle.margin_rules.specs.Answers.{larger, no_holding, padded, list_of, holdings_of}
use Rattle.margin.specs.Listing.{listed}
use Rattle.margin.proofs.Offering.{OnTheWay, way_as, way_all, way_end}
use Rattle.margin.proofs.Gathered.{gathered, visited_kept}
use Rattle.margin.proofs.account.Account.list_holdings.Goals as goal

pub loop-kind-init : goal.loop-kind-init
loop-kind-init c =
    let n : ℕ = length c.new-list.result.places.now in
    let all : List Holding = gathered (listed c.args.self.now.places.now) all_kinds in
    record {
      same = refl;
      way = record {
        way = ap (λ len. fold (keep larger n) (take len c.new-list.result.places.now) all) c.new-list.ensures.len;
        more = omega arith;
        spare = refl;
        room = refl;
      };
    }

pub loop-kind-preserved : goal.loop-kind-preserved
loop-kind-preserved c =
    let xs = c.args.self.now.places.now in
    let i = c.loop-kind.kind-index in
    let n : ℕ = length c.new-list.result.places.now in
    let all : List Holding = gathered (listed xs) all_kinds in
    let old : List Holding = c.new-list.result.places.now in
    let len : ℕ = c.loop-kind.list.len in
    let places : List Holding = c.loop-kind.list.places.now in
    let left : List Kind → List Holding = λ ks. fold (keep larger n) (take len places) (gathered (listed xs) ks) in
    let e = c.offer_kind.ensures in
    record {
      same = e.same ∙ c.loop-kind.invariant.same;
      way =
          way_all larger n [] 0 all old (listed xs (get_or all_kinds i Stock)) (gathered (listed xs) (drop (i + 1) all_kinds)) len c.offer_kind.new.list.len places c.offer_kind.new.list.places.now
          e.more e.kept e.spare e.room
          (way_as larger n [] 0 all old (gathered (listed xs) (drop i all_kinds)) (listed xs (get_or all_kinds i Stock) ++ gathered (listed xs) (drop (i + 1) all_kinds)) len places
          (at_drop_more left all_kinds i Stock c.loop-kind-test.true) c.loop-kind.invariant.way);
    }

pub returns : goal.returns
unfolding list_of
returns c =
    let xs = c.args.self.now.places.now in
    let i = c.loop-kind.kind-index in
    let n : ℕ = length c.args.holdings.now in
    let all : List Holding = gathered (listed xs) all_kinds in
    let old : List Holding = c.new-list.result.places.now in
    let m : ℕ = length old in
    let len : ℕ = c.loop-kind.list.len in
    let places : List Holding = c.loop-kind.list.places.now in
    let left : List Kind → List Holding = λ ks. fold (keep larger m) (take len places) (gathered (listed xs) ks) in
    let filled : c.fill.new.self ≡ replicate (length c.fill.new.self) no_holding = search rules in
    let room : m ≡ n = ap length c.new-list.ensures.places ∙ c.fill.ensures.len in
    let is : old ≡ replicate m no_holding = c.new-list.ensures.places ∙ filled ∙ ap (λ l. replicate (length l) no_holding) (sym c.new-list.ensures.places) in
    let way : OnTheWay larger m [] 0 [] all old len places =
    way_as larger m [] 0 all old (gathered (listed xs) (drop i all_kinds)) [] len places (at_drop_all left all_kinds i c.loop-kind-test.false) c.loop-kind.invariant.way in
    let e : places ≡ padded n no_holding (kept larger n (holdings_of (book xs) all_stocks all_kinds)) =
    way_end larger m no_holding all old len places is c.loop-kind.list.within way
    ∙ ap (λ j. padded j no_holding (kept larger j all)) room ∙ ap (padded n no_holding) (visited_kept xs c.args.self.now.sound n) in
    search rules
