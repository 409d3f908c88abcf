-- The test of contents tells whether they are the same.
use Rattle.std.proofs.Common.{◌≡◌, rules}
use Rattle.std.specs.Bool.{Decides}
use Rattle.std.specs.Cmp.Lexicographic.{bytes_decides, pointwise_decides}
use Rattle.units.specs.Same.{nat_decides, number_decides, text_decides, and_decides, decides_to}
use Rattle.units.specs.declared.request.Operation.{Operation}
use Rattle.units.specs.declared.request.UnitUsage.{UnitUsage}
use Rattle.units.specs.declared.request.Request.{Request}
use Rattle.units.specs.declared.request.Operation.TheVariants.{Create, Update, Release}
use Rattle.units.specs.contracts.request.UnitUsagePlain.TheImpl.Laws as usage
use Rattle.sessions.specs.Content.{content, same_operation, same_usage, same_content}

operations : (a b : Operation) → Decides (same_operation a b) (a ≡ b)
operations Create Create = search rules
operations Create (Update s) = search rules
operations Create (Release s) = search rules
operations (Update r) Create = search rules
operations (Update r) (Update s) = search rules
operations (Update r) (Release s) = search rules
operations (Release r) Create = search rules
operations (Release r) (Update s) = search rules
operations (Release r) (Release s) = search rules

usages : (a b : UnitUsage) → Decides (same_usage a b) (a ≡ b)
usages a b = usage.decides-law a b

contents_are : (a b : Request) → a.operation ≡ b.operation → a.consumer ≡ b.consumer → a.subscriber ≡ b.subscriber → a.charging_id ≡ b.charging_id → a.number ≡ b.number → a.stamp ≡ b.stamp → a.notify ≡ b.notify → a.usage ≡ b.usage → a.triggers ≡ b.triggers → content a ≡ content b
contents_are a b o c s i n t m u g = λ j. record { operation = o j; consumer = c j; subscriber = s j; charging_id = i j; number = n j; stamp = t j; again = (content a).again; notify = m j; usage = u j; triggers = g j }

pub content_decides : (a b : Request) → Decides (same_content a b) (content a ≡ content b)
content_decides a b =
    decides_to _ (and_decides _ _ (and_decides _ _ (operations a.operation b.operation) (and_decides _ _ (bytes_decides a.consumer b.consumer) (and_decides _ _ (text_decides a.subscriber b.subscriber) (and_decides _ _ (number_decides a.charging_id b.charging_id) (nat_decides a.number b.number)))))
    (and_decides _ _ (nat_decides a.stamp b.stamp) (and_decides _ _ (text_decides a.notify b.notify) (and_decides _ _ (pointwise_decides usages a.usage b.usage) (pointwise_decides bytes_decides a.triggers b.triggers)))))
    (λ e. contents_are a b e.0.0 e.0.1.0 e.0.1.1.0 e.0.1.1.1.0 e.0.1.1.1.1 e.1.0 e.1.1.0 e.1.1.1.0 e.1.1.1.1)
    (λ e. ((λ j. (e j).operation, (λ j. (e j).consumer, (λ j. (e j).subscriber, (λ j. (e j).charging_id, λ j. (e j).number)))), (λ j. (e j).stamp, (λ j. (e j).notify, (λ j. (e j).usage, λ j. (e j).triggers)))))
