use Rattle.std.proofs.Common.{refl}
use Rattle.clerk_turns.specs.declared.command.Command.TheVariants as command
use Rattle.clerk_turns.proofs.outcomes.outcome.Goals as goal

pub returns-in_ok-told-in-Import : goal.returns-in_ok-told-in-Import
returns-in_ok-told-in-Import c =
    let h = c.args.heard.now in
    let cmd = command.Import c.in-Import._high c.in-Import.name c.in-Import.wanted in
    let told = c.in_ok-told-in-Import.ensures in
    rw c.in-Import.is
    (c.of_searched.ensures h cmd (c.plainly.ensures.done h cmd told.done) (c.plainly.ensures.asks h cmd told.asks)
    (c.plainly.ensures.root h told.root))

pub returns-in_ok-told-in-Inquire : goal.returns-in_ok-told-in-Inquire
returns-in_ok-told-in-Inquire c =
    let told = c.in_ok-told-in-Inquire.ensures in
    rw c.in-Inquire.is
    (c.of_inquired.ensures c.args.heard.now (command.Inquire c.in-Inquire._high c.in-Inquire.name c.in-Inquire.listing) refl told.done told.asks told.root)

pub returns-in_ok-told-in-Lookup : goal.returns-in_ok-told-in-Lookup
returns-in_ok-told-in-Lookup c =
    let cmd = command.Lookup c.in-Lookup._high c.in-Lookup.name c.in-Lookup.wanted c.in-Lookup.most in
    let told = c.in_ok-told-in-Lookup.ensures in
    rw c.in-Lookup.is
    (c.of_searched-in-Lookup.ensures c.args.heard.now cmd (rw c.most.ensures.is at told.done) told.asks told.root)

pub returns-in_ok-told-in-Plan : goal.returns-in_ok-told-in-Plan
returns-in_ok-told-in-Plan c =
    let told = c.in_ok-told-in-Plan.ensures in
    rw c.in-Plan.is
    (c.of_planned.ensures c.args.heard.now (command.Plan c.in-Plan.plan) told.done told.asks told.needs told.root refl)

pub returns-in_ok-told-in-Update : goal.returns-in_ok-told-in-Update
returns-in_ok-told-in-Update c =
    let told = c.in_ok-told-in-Update.ensures in
    rw c.in-Update.is
    (c.of_planned-in-Update.ensures c.args.heard.now (command.Update c.in-Update.name c.in-Update.update) told.done told.asks told.needs told.root refl)
