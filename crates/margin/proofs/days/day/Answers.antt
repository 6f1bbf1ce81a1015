use Rattle.std.proofs.Common.{◌≡◌, ◌-◌, [], length, take, drop, replicate, pos, Ok, sym, refl, ap, ◌∙◌, subst, arith, rules}
use Rattle.std.proofs.lemmas.List.{length-replicate}
use Rattle.ledger.specs.declared.terms.Place.TheVariants.{Free}
use Rattle.ledger.specs.Settings.{opening_answer}
use Rattle.ledger.specs.Calls.{runs, assesses}
use Rattle.margin_rules.specs.Positions.{book}
use Rattle.margin_rules.specs.Answers.{assessment}
use Rattle.margin_rules.specs.Laws.{asked}
use Rattle.margin_rules.proofs.Laws.{account_laws}
use Rattle.margin.specs.declared.requests.Request.{Request}
use Rattle.margin.specs.declared.requests.Request.TheVariants.{Post}
use Rattle.margin.specs.Days.{calls_of, as_assessing, day_answer, sheets_of, sheets_after, room_in, served, sheets_left, sheets_at_end, Holds}
use Rattle.margin.specs.Assessing.{room_of}
use Rattle.margin.proofs.DayLaws.{going_more, going_run, going_sheets, going_holds, table_at_end}
use Rattle.margin.proofs.days.day.Goals as goal

-- what stands behind the last request
abbrev no_request : Request
no_request = Post (record { number = 0; kind = 0; stock = 0; quantity = pos 0; contract_value = pos 0; market_value = pos 0 })

pub returns-in_err-check_open-clause-laws : goal.returns-in_err-check_open-clause-laws
returns-in_err-check_open-clause-laws g c = account_laws

pub loop-request-init : goal.loop-request-init
loop-request-init g c =
    let m = g.S.ReturnSource.meaning c.args.source.now in
    let s = c.open-account.result.settings in
    let n = length c.open-account.result.table.now in
    let cs = calls_of c.args.requests.now in
    let h = sheets_of c.args.totals.now c.args.row.now c.args.tail.now c.args.holdings.now in
    let o = c.open-account.ensures in
    let size : n ≡ length c.args.table.now = ap length o.table ∙ length-replicate (length c.args.table.now) Free in
    let z : n - 0 ≡ n = omega arith in
    record {
      going = record {
        run = ap (runs n cs) o.places;
        sheets = ap (λ t. sheets_left m s n cs t h) o.places;
        size = refl;
        within = omega (arith, o.used);
        same = refl;
        free = (λ i. drop (o.used i) (o.table i)) ∙ ap (λ k. replicate k Free) (sym size ∙ sym z) ∙ ap (λ k. replicate (n - k) Free) (sym o.used);
      };
      named = refl;
    }

pub loop-request-preserved : goal.loop-request-preserved
loop-request-preserved g c =
    let m = g.S.ReturnSource.meaning c.args.source.now in
    let a = c.loop-request.account in
    let b = c.serve.new.self in
    let e = c.serve.ensures in
    let inv = c.loop-request.invariant in
    let first = sheets_of c.args.totals.now c.args.row.now c.args.tail.now c.args.holdings.now in
    let h = sheets_of c.loop-request.totals c.loop-request.row c.loop-request.tail c.loop-request.holdings in
    let h' = sheets_of c.serve.new.totals c.serve.new.row c.serve.new.tail c.serve.new.holdings in
    record {
      going = going_more m c.open-account.result.settings (length c.open-account.result.table.now) c.args.requests.now c.loop-request.request-index first a.table.now b.table.now a.used b.used a.settings b.settings h h' no_request c.loop-request-test.true e.places e.room b.within e.settings e.rest e.sheets inv.going;
      named = e.named ∙ inv.named;
    }

pub returns : goal.returns
returns g c =
    let m = g.S.ReturnSource.meaning c.args.source.now in
    let rs = c.args.requests.now in
    let cs = calls_of rs in
    let s = c.args.settings in
    let s' = c.open-account.result.settings in
    let n = length c.open-account.result.table.now in
    let cap = length c.args.table.now in
    let a = c.loop-request.account in
    let inv = c.loop-request.invariant in
    let i = c.loop-request.request-index in
    let o = c.open-account.ensures in
    let k = c.loop-request.auto in
    let e = c.assess-answer.ensures in
    let first = sheets_of c.args.totals.now c.args.row.now c.args.tail.now c.args.holdings.now in
    let h = sheets_of c.loop-request.totals c.loop-request.row c.loop-request.tail c.loop-request.holdings in
    let t = runs cap cs [] in
    let left = sheets_left m s cap cs [] first in
    let over = c.loop-request-test.false in
    let size : n ≡ cap = ap length o.table ∙ length-replicate cap Free in
    let there : take a.used a.table.now ≡ t = going_run m s' n rs i first a.table.now a.used a.settings h over inv.going ∙ ap (λ j. runs j cs []) size in
    let same : a.settings ≡ s = inv.going.same ∙ o.settings in
    let held : h ≡ left = going_sheets m s' n rs i first a.table.now a.used a.settings h over inv.going ∙ (λ j. sheets_left m (o.settings j) (size j) cs [] first) in
    let opened : opening_answer cap s ≡ Ok tt = search rules in
    let holds : Holds t cap a.table.now = subst (λ j. Holds (runs j cs []) j a.table.now) size (going_holds m s' n rs i first a.table.now a.used a.settings h over inv.going) in
    let named = inv.named ∙ o.named in
    let answered : c.assess-answer.result ≡ assessment m s (book t) (room_in h) = e.answer ∙ (λ j. assessment m (same j) (book (there j)) (room_in h)) in
    let asked_is : assessment m s (book t) (room_in h) ≡ asked m s cap cs (room_in first) = (λ j. assessment m s (book t) (room_of (k.totals j) (k.row j) (k.tail j) (k.holdings j))) in
    record {
      answer = c.as_day.ensures ∙ ap as_assessing (answered ∙ asked_is) ∙ sym (ap (λ x. day_answer x (asked m s cap cs (room_in first))) opened);
      sheets =
          (λ j. sheets_of (e.totals j) (e.row j) (e.tail j) (e.holdings j))
          ∙ (λ j. sheets_after (answered j) (book (there j)) h)
          ∙ ap (λ x. served m s assesses t x) held
          ∙ sym (ap (λ x. sheets_at_end x (served m s assesses t left) first) opened);
      table = table_at_end (opening_answer cap s) t c.args.table.now _ a.table.now opened (search rules) holds;
      laws = account_laws;
    }
