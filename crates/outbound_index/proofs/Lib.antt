mod OutboundCosts
