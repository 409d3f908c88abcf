-- The content of a charging data request: all of it but the retransmission indicator (TS 32.290, 5.3.2).
use Rattle.std.specs.Prelude.{◌≡◌, ◌↔◌, nat_eq, ◌&&◌, Bool, true, false}
use Rattle.std.specs.Option.{option_eq}
use Rattle.std.specs.Cmp.Lexicographic.{pointwise}
use Rattle.units.specs.declared.request.Operation.{Operation}
use Rattle.units.specs.declared.request.Operation.TheVariants.{Create, Update, Release}
use Rattle.units.specs.declared.request.Ask.{Ask}
use Rattle.units.specs.declared.request.Used.{Used}
use Rattle.units.specs.declared.request.UnitUsage.{UnitUsage}
use Rattle.units.specs.declared.request.Request.{Request}

-- the content: the request without its mark
abbrev pub content : Request → Request
content q = record q { again = false }

-- the same operation, with the same reference
abbrev pub same_operation : Operation → Operation → Bool
same_operation Create Create = true
same_operation Create (Update s) = false
same_operation Create (Release s) = false
same_operation (Update r) Create = false
same_operation (Update r) (Update s) = nat_eq r s
same_operation (Update r) (Release s) = false
same_operation (Release r) Create = false
same_operation (Release r) (Update s) = false
same_operation (Release r) (Release s) = nat_eq r s

-- the same requested unit
abbrev pub same_ask : Ask → Ask → Bool
same_ask a b = option_eq nat_eq a.volume b.volume && option_eq nat_eq a.seconds b.seconds

-- the same used unit container
abbrev pub same_used : Used → Used → Bool
same_used a b =
    nat_eq a.lsn b.lsn && (nat_eq a.group b.group && (nat_eq a.up b.up && (nat_eq a.down b.down && (nat_eq a.seconds b.seconds && (nat_eq a.first b.first
    && (nat_eq a.last b.last && (pointwise (pointwise nat_eq) a.triggers b.triggers && nat_eq a.moment b.moment)))))))

-- the same multiple unit usage
abbrev pub same_usage : UnitUsage → UnitUsage → Bool
same_usage a b = nat_eq a.group b.group && (option_eq same_ask a.ask b.ask && pointwise same_used a.used b.used)

-- the same sender, subscriber, session and number
abbrev pub same_name : Request → Request → Bool
same_name a b =
    same_operation a.operation b.operation && (pointwise nat_eq a.consumer b.consumer && (option_eq (pointwise nat_eq) a.subscriber b.subscriber
    && (option_eq nat_eq a.charging_id b.charging_id && nat_eq a.number b.number)))

-- the same time, address, usage and triggers
abbrev pub same_body : Request → Request → Bool
same_body a b =
    nat_eq a.stamp b.stamp && (option_eq (pointwise nat_eq) a.notify b.notify && (pointwise same_usage a.usage b.usage && pointwise (pointwise nat_eq) a.triggers b.triggers))

-- the same in all fields but the mark
abbrev pub same_content : Request → Request → Bool
same_content a b = same_name a b && same_body a b

-- The test of contents tells of all requests whether they are the same but for the mark.
abbrev pub ContentsAreTold : Type 0
ContentsAreTold = (a b : Request) → (same_content a b ≡ true) ↔ (content a ≡ content b)
