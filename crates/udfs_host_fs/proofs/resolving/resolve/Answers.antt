use Rattle.std.proofs.Common.{◌≡◌, String, Global, None, IsNone, IfSome, refl, sym, ◌∙◌, ap, subst, string_bytes}
use Rattle.udfs_calls.specs.Paths.{IsDevice}
use Rattle.udfs_host_fs.proofs.Leading.{led_all, led_device, none_found, ok_found, some_found}
use Rattle.udfs_host_fs.proofs.resolving.resolve.Goals as goal

pub loop-init : goal.loop-init
loop-init g c = λ tells. ap (g.C.Calls.real c.args.calls.now) c.in_ok-at.ensures.ok

pub returns-then-is_device : goal.returns-then-is_device
returns-then-is_device g c = λ tells.
    let at = string_bytes c.loop.at in
    let is : IsDevice at = subst IsDevice c.as_str.ensures.value (c.is_device.ensures.0 c.if-is_device.true) in
    led_device (g.C.Calls.log c.args.calls.now) (g.C.Calls.real c.args.calls.now) (g.C.Calls.identity c.args.calls.now) (g.C.Calls.in_place c.args.calls.now) at c.args.path.now _ refl refl refl (c.loop.invariant tells)
    (g.met.C.Calls.device_leads tells c.args.calls.now at is)

pub returns-in-Ok-None : goal.returns-in-Ok-None
returns-in-Ok-None g c =
    let at = c.as_str-in-Ok-None.result.now in
    led_all (g.C.Calls.log c.args.calls.now) (g.C.Calls.real c.args.calls.now) (g.C.Calls.identity c.args.calls.now) (g.C.Calls.in_place c.args.calls.now) at c.args.path.now g.C.Calls.tells (g.C.Calls.link_at c.args.calls.now at) c.settled.result
    (λ tells. ap (g.C.Calls.real c.args.calls.now) c.as_str-in-Ok-None.ensures.value ∙ c.loop.invariant tells)
    (λ tells. ap (g.C.Calls.link_at c.args.calls.now) (c.as_str-in-Ok-None.ensures.value ∙ sym c.as_str-in-loop.ensures.value)
    ∙ none_found (g.C.Calls.link_at c.args.calls.now c.as_str-in-loop.result.now) c.in-Ok-None.field-0 c.in-Ok-None.field-0-is
    (ok_found (λ found. (IsNone found → g.C.Calls.link_at c.args.calls.now c.as_str-in-loop.result.now ≡ None)) c.in_ok-next.field-0 c.in-Ok-None.field-0 c.in-Ok-None.is c.in_ok-next.ensures.none))
    c.settled.ensures

pub loop-preserved : goal.loop-preserved
loop-preserved g c = λ tells.
    let leads = λ (next : String Global). g.C.Calls.tells → g.C.Calls.real c.args.calls.now (string_bytes next) ≡ g.C.Calls.real c.args.calls.now c.as_str-in-loop.result.now in
    some_found leads c.in-Ok-Some.field-0 c.in-Ok-Some.next c.in-Ok-Some.field-0-is (ok_found (λ found. IfSome found leads) c.in_ok-next.field-0 c.in-Ok-Some.field-0 c.in-Ok-Some.is c.in_ok-next.ensures.leads) tells
    ∙ ap (g.C.Calls.real c.args.calls.now) c.as_str-in-loop.ensures.value ∙ c.loop.invariant tells
